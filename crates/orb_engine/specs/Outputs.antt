-- What is written of a recording: by the job `Filter` the responses that are allowed and a reply in the place of
-- each other, and by the job `Explain` a line for each whole exchange.
use Rattle.std.specs.Prelude.{ℕ, ◌+◌, Bool, true, false, ◌&&◌, List, [], ◌∷◌, ◌++◌, length, if◌then◌else◌, codes, decimal}
use Rattle.std.specs.FinMap as map
use Rattle.orb_bytes.specs.Ascii.{space, line_feed}
use Rattle.media_state.specs.Table.{States}
use Rattle.media_state.specs.declared.states.MediaState.{MediaState}
use Rattle.media_state.specs.States.{name_of as state_name}
use Rattle.response_rules.specs.declared.rules.Rule.{Rule}
use Rattle.response_rules.specs.Rules.{name_of, is_allowing, state_after_rule}
use Rattle.response_rules.specs.Heads.{length_of}
use Rattle.response_rules.specs.Tables.{rule_of}
use Rattle.body_filter.specs.Responses.{Response, output_so_far, whole_output}
use Rattle.orb_engine.specs.declared.settings.Job.{Job}
use Rattle.orb_engine.specs.declared.settings.Job.TheVariants.{Filter, Explain}
use Rattle.orb_engine.specs.declared.settings.Settings.{Settings}
use Rattle.exchanges.specs.Heads.{is_to_end}
use Rattle.orb_engine.specs.Judged.{response_of}
use Rattle.orb_engine.specs.Recording as cut
use Rattle.orb_engine.specs.Recording.{Exchange, Tail, Recording, table_after, table_after_all}

abbrev pub verdict_name : Bool → List ℕ
verdict_name true = codes "allow"
verdict_name false = codes "block"

-- the line of an exchange: its number, the verdict, the rule, the state of its media resource after it,
-- and how long its body is
unfoldable pub line_of : (number : ℕ) → Rule → MediaState → (length_ : ℕ) → List ℕ
line_of number rule state length_ =
    decimal number ++ (space ∷ (verdict_name (is_allowing rule)
    ++ (space ∷ (name_of rule
    ++ (space ∷ (state_name state
    ++ (space ∷ (decimal length_ ++ (line_feed ∷ [])))))))))

-- the line of a response that the rule decides
abbrev pub line_by : (number : ℕ) → Response → (length_ : ℕ) → Rule → List ℕ
line_by number x length_ rule =
    line_of number rule (state_after_rule x.judged.state rule (length_of x.judged)) length_

-- what is written when these bytes of a body have come
unfoldable pub written_so_far : Job → Response → List ℕ → List ℕ
written_so_far Filter x body = output_so_far x body
written_so_far Explain x body = []

-- what is written of a whole exchange with that body and that number
unfoldable pub written_whole : Job → (number : ℕ) → Response → List ℕ → List ℕ
written_whole Filter number x body = whole_output x body
written_whole Explain number x body = line_by number x (length body) (rule_of x.judged body)

-- what is written of whole exchanges, of which so many stand before
abbrev pub written_exchanges : Settings → States → (before : ℕ) → List Exchange → List ℕ
written_exchanges s table before [] = []
written_exchanges s table before (i ∷ exchanges) =
    written_whole s.job (before + 1) (response_of s table i.heads) i.body
    ++ written_exchanges s (table_after table i) (before + 1) exchanges

-- what is written of the tail
abbrev pub written_tail : Settings → States → (before : ℕ) → (ended : Bool) → Tail → List ℕ
written_tail s table before ended (cut.InBody h sent body) =
    if ended && is_to_end h.response.frame
    then written_whole s.job (before + 1) (response_of s table h) body
    else written_so_far s.job (response_of s table h) body
written_tail s table before ended (cut.BadBody h sent body b) = written_so_far s.job (response_of s table h) body
written_tail s table before ended (cut.InRequestHead head) = []
written_tail s table before ended (cut.InResponseHead r head) = []
written_tail s table before ended (cut.LongRequest head) = []
written_tail s table before ended (cut.BadRequest head kind) = []
written_tail s table before ended (cut.FullTable r) = []
written_tail s table before ended (cut.LongResponse r head) = []
written_tail s table before ended (cut.BadResponse r head kind) = []

-- all that is written of a recording, of which no more comes where it has ended
unfoldable pub output_of : Settings → Recording → (ended : Bool) → List ℕ
output_of s r ended =
    written_exchanges s map.empty 0 r.exchanges
    ++ written_tail s (table_after_all map.empty r.exchanges) (length r.exchanges) ended r.tail
