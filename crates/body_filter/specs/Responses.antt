-- What goes out of one exchange, by what it is judged by and by the bytes of its body.
use Rattle.std.specs.Prelude.{ℕ, ◌%◌, Bool, List, [], ◌++◌, length, if◌then◌else◌}
use Rattle.response_rules.specs.declared.rules.Rule.{Rule}
use Rattle.response_rules.specs.Rules.{is_allowing}
use Rattle.response_rules.specs.Heads.{Case}
use Rattle.response_rules.specs.Tables.{rule_of}
use Rattle.response_rules.specs.Settled.{is_sent, is_hopeless}
use Rattle.http_exchange.specs.Chunks.{chunk_size, body_so_far, whole_body}
use Rattle.body_filter.specs.Reply.{reply_of}

-- a response whose body comes
pub record Response : Type 0 where
  -- what it is judged by
  pub judged : Case
  -- its head, as it was read
  pub bytes : List ℕ
  -- its body came in chunks, and goes out in chunks
  pub chunked : Bool

-- the response with that head
abbrev pub response_of : Case → (bytes : List ℕ) → (chunked : Bool) → Response
response_of judged bytes chunked = record { judged = judged; bytes = bytes; chunked = chunked }

-- what goes out when these bytes of the body have come: the head and they, once a rule that allows is
-- settled, and nothing before
unfoldable pub output_so_far : Response → List ℕ → List ℕ
output_so_far x m = if is_sent x.judged m then x.bytes ++ body_so_far x.chunked m else []

-- what goes out of a whole exchange that the rule decides
abbrev pub decided_by : Response → List ℕ → Rule → List ℕ
decided_by x m rule = if is_allowing rule then x.bytes ++ whole_body x.chunked m else reply_of rule

-- what goes out of a whole exchange with that body
unfoldable pub whole_output : Response → List ℕ → List ℕ
whole_output x m = decided_by x m (rule_of x.judged m)

-- how many bytes of the body are kept back, by whether the script test is dead
unfoldable pub held_of : Response → List ℕ → (dead : Bool) → ℕ
held_of x m dead =
    if is_sent x.judged m then (if x.chunked then length m % chunk_size else 0)
    else if is_hopeless x.judged m dead then 0
    else length m
