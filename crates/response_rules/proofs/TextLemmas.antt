-- The truth values of texts, and the rules of the end.
use Rattle.std.proofs.Common.{◌≡◌, ℕ, Bool, true, false, if◌then◌else◌, not, List, [], ◌∷◌, length, nat_lt, Some, None, ◌↔◌, inl, inr, refl, sym, ap, ◌∙◌}
use Rattle.std.proofs.lemmas.Option.{same_Some}
use Rattle.text_stream.specs.Decoding.{characters_of}
use Rattle.json_recogniser.specs.Grammar.{IsJson}
use Rattle.json_recogniser.proofs.JsonTestLemmas.{json_to, json_from}
use Rattle.es5_lexer.proofs.DecidedLemmas.{Decision}
use Rattle.es5_machine.specs.Scripts.{IsScript}
use Rattle.es5_machine.proofs.Decided.{decided_text}
use Rattle.response_rules.specs.declared.rules.Rule.TheVariants.{BodyLimit, NotScript, Json, Script}
use Rattle.response_rules.specs.Heads.{Case}
use Rattle.response_rules.specs.Texts.{truth_of, is_script, is_json}
use Rattle.response_rules.specs.Rules.{is_allowing, row_of}
use Rattle.response_rules.specs.Tables.{early_rule, orb_end_rows, first_rule, rule_of}
use Rattle.response_rules.specs.Reads.{text_rule}
use Rattle.response_rules.proofs.TableLemmas.{end_decides}

pinned : (A : Type 0) (d : Decision A) → (truth_of A d ≡ true) ↔ A
pinned A (inl holds) = (λ is. holds, λ h. refl)
pinned A (inr never) = (λ is. absurd (cc is), λ h. absurd (never h))

pub script_is_decided : (body : List ℕ) → (is_script body ≡ true) ↔ IsScript body
unfolding is_script
script_is_decided body = pinned (IsScript body) (decided_text (characters_of body))

pub json_is_decided : (body : List ℕ) → (is_json body ≡ true) ↔ IsJson (characters_of body)
unfolding is_json
json_is_decided body = (json_to (characters_of body), json_from (characters_of body))

-- what holds of neither truth value but the other
pub is_false : (b : Bool) → (b ≡ true → ⊥) → b ≡ false
is_false true never = absurd (never refl)
is_false false never = refl

pub no_script : (body : List ℕ) → (IsScript body → ⊥) → is_script body ≡ false
no_script body never = is_false (is_script body) (λ is. never ((script_is_decided body).0 is))

-- truth values that hold together
pub same_truth : (a b : Bool) → (a ≡ true → b ≡ true) → (b ≡ true → a ≡ true) → a ≡ b
same_truth true b to from = sym (to refl)
same_truth false true to from = from refl
same_truth false false to from = refl

-- what is true just of scripts, and just of JSON
pub script_value : (body : List ℕ) (answer : Bool) → (answer ≡ true) ↔ IsScript body → answer ≡ is_script body
script_value body answer is =
    let truth = script_is_decided body in
    same_truth answer (is_script body) (λ h. truth.1 (is.0 h)) (λ h. is.1 (truth.0 h))

pub json_value : (body : List ℕ) (answer : Bool) → (answer ≡ true) ↔ IsJson (characters_of body) → answer ≡ is_json body
json_value body answer is =
    let truth = json_is_decided body in
    same_truth answer (is_json body) (λ h. truth.1 (is.0 h)) (λ h. is.1 (truth.0 h))

-- the rules of the end, where neither head nor window decides
first_of_end : (over script json : Bool) → first_rule ((BodyLimit, over) ∷ (NotScript, not script) ∷ (Json, json) ∷ (Script, true) ∷ [])
    ≡ Some (if over then BodyLimit else if script then (if json then Json else Script) else NotScript)
first_of_end true script json = refl
first_of_end false false json = refl
first_of_end false true true = refl
first_of_end false true false = refl

end_is : (h : Case) (body : List ℕ) → early_rule h body ≡ None
    → rule_of h body ≡ (if nat_lt h.limit (length body) then BodyLimit else text_rule body)
unfolding orb_end_rows
end_is h body none =
    same_Some (rule_of h body) (if nat_lt h.limit (length body) then BodyLimit else text_rule body)
    (end_decides h body none ∙ first_of_end (nat_lt h.limit (length body)) (is_script body) (is_json body))

pub over_is : (h : Case) (body : List ℕ) → early_rule h body ≡ None → nat_lt h.limit (length body) ≡ true → rule_of h body ≡ BodyLimit
over_is h body none over = end_is h body none ∙ ap (λ b. if b then BodyLimit else text_rule body) over

pub text_is : (h : Case) (body : List ℕ) → early_rule h body ≡ None → nat_lt h.limit (length body) ≡ false → rule_of h body ≡ text_rule body
text_is h body none within = end_is h body none ∙ ap (λ b. if b then BodyLimit else text_rule body) within

-- what is no script isn't allowed by a rule of the end
pub no_script_blocks : (h : Case) (body : List ℕ) → early_rule h body ≡ None → is_script body ≡ false → is_allowing (rule_of h body) ≡ false
unfolding row_of
no_script_blocks h body none never =
    ap is_allowing (end_is h body none) ∙ by (nat_lt h.limit (length body)) (is_script body) never
  where
    by : (over script : Bool) → script ≡ false
        → is_allowing (if over then BodyLimit else if script then (if is_json body then Json else Script) else NotScript) ≡ false
    by true script is = refl
    by false true is = absurd (cc is)
    by false false is = refl

pub over_blocks : (h : Case) (body : List ℕ) → early_rule h body ≡ None → nat_lt h.limit (length body) ≡ true → is_allowing (rule_of h body) ≡ false
unfolding row_of
over_blocks h body none over = ap is_allowing (over_is h body none over)
