-- How far a response is judged, as a filter asks.
use Rattle.std.specs.Prelude.{Bool, if◌then◌else◌}
use Rattle.body_filter.specs.declared.judging.Judgement.{Judgement}
use Rattle.body_filter.specs.declared.judging.Judgement.TheVariants as judgement

-- the judgement on a prefix of a body
abbrev pub judged : (sent hopeless : Bool) → Judgement
judged sent hopeless = if sent then judgement.Allowed else if hopeless then judgement.Blocked else judgement.Open
