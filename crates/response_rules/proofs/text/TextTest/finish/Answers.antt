use Rattle.std.proofs.Common.{◌≡◌, true, false, sym, ap, if◌then◌else◌, ◌∙◌}
use Rattle.response_rules.specs.declared.rules.Rule.TheVariants.{NotScript, Json, Script}
use Rattle.response_rules.specs.Texts.{is_script, is_json}
use Rattle.response_rules.proofs.TextLemmas.{script_value, json_value}
use Rattle.response_rules.proofs.HopelessLemmas.{alive_script}
use Rattle.response_rules.proofs.text.TextTest.finish.Goals as goal

pub returns-then-not-finish : goal.returns-then-not-finish
returns-then-not-finish c = λ m r.
    let never : is_script m ≡ false = sym (script_value m c.finish.result (c.finish.ensures m r.script)) ∙ c.if-not-finish.true in
    sym (ap (λ b. if b then (if is_json m then Json else Script) else NotScript) never)

pub returns-then-finish : goal.returns-then-finish
returns-then-finish c = λ m r.
    let is : is_script m ≡ true = sym (script_value m c.finish.result (c.finish.ensures m r.script)) ∙ c.if-not-finish.false in
    let alive = alive_script c.args.self.now.script m r.script is in
    let json : is_json m ≡ true = sym (json_value m c.finish-else-not-finish.result (c.finish-else-not-finish.ensures m (r.json alive))) ∙ c.if-finish.true in
    sym (ap (λ b. if b then (if is_json m then Json else Script) else NotScript) is ∙ ap (λ b. if b then Json else Script) json)

pub returns-else-finish : goal.returns-else-finish
returns-else-finish c = λ m r.
    let is : is_script m ≡ true = sym (script_value m c.finish.result (c.finish.ensures m r.script)) ∙ c.if-not-finish.false in
    let alive = alive_script c.args.self.now.script m r.script is in
    let json : is_json m ≡ false = sym (json_value m c.finish-else-not-finish.result (c.finish-else-not-finish.ensures m (r.json alive))) ∙ c.if-finish.false in
    sym (ap (λ b. if b then (if is_json m then Json else Script) else NotScript) is ∙ ap (λ b. if b then Json else Script) json)
