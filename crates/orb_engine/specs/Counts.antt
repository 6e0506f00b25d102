-- How many whole exchanges a recording has, by verdict.
use Rattle.std.specs.Prelude.{ℕ, Bool, ◌&&◌, not, List, [], ◌∷◌, ◌++◌, map, count_by, if◌then◌else◌}
use Rattle.std.specs.FinMap as finite
use Rattle.media_state.specs.Table.{States}
use Rattle.response_rules.specs.declared.rules.Rule.{Rule}
use Rattle.response_rules.specs.Rules.{is_allowing}
use Rattle.response_rules.specs.Tables.{rule_of}
use Rattle.orb_engine.specs.declared.settings.Settings.{Settings}
use Rattle.exchanges.specs.Heads.{is_to_end}
use Rattle.orb_engine.specs.Judged.{judged_by}
use Rattle.orb_engine.specs.Recording as cut
use Rattle.orb_engine.specs.Recording.{Exchange, Tail, Recording, table_after_all}

-- the rule of a tail that is a whole exchange where the input has ended
abbrev pub rules_of_tail : Settings → States → (ended : Bool) → Tail → List Rule
rules_of_tail s table ended (cut.InBody h sent body) =
    if ended && is_to_end h.response.frame then rule_of (judged_by s table h) body ∷ [] else []
rules_of_tail s table ended tail = []

abbrev pub rules_of_exchanges : List Exchange → List Rule
rules_of_exchanges exchanges = map (λ i. i.rule) exchanges

-- the rules of the whole exchanges, in order
unfoldable pub rules_of : Settings → Recording → (ended : Bool) → List Rule
rules_of s r ended =
    rules_of_exchanges r.exchanges ++ rules_of_tail s (table_after_all finite.empty r.exchanges) ended r.tail

-- how many of them allow
abbrev pub count_allowed : List Rule → ℕ
count_allowed rules = count_by is_allowing rules

-- how many block
abbrev pub count_blocked : List Rule → ℕ
count_blocked rules = count_by (λ rule. not (is_allowing rule)) rules
