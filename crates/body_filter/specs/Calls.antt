-- What the calls of a filter deliver.
use Rattle.std.specs.Prelude.{ℕ, List, [], ◌++◌, Result}
use Rattle.orb_io.specs.Told.{Told, Delivers}
use Rattle.body_filter.specs.declared.filtering.Filter.{Filter}
use Rattle.body_filter.specs.Responses.{Response, output_so_far}
use Rattle.body_filter.specs.Reads.{HasRead}

-- a response begins: what goes out of it before any of its body
abbrev pub Begins : {T E : Type 0} → Result T E → (new : Filter) → Response → (told told' : Told) → Type 0
Begins result new x told told' = Delivers result told told' [] (output_so_far x []) (λ _. HasRead new x [])

-- a piece of its body follows what was read: what goes out then
abbrev pub Feeds : {T E : Type 0} → Result T E → (old new : Filter) → (piece : List ℕ) → (told told' : Told) → Type 0
Feeds result old new piece told told' = (x : Response) (m : List ℕ) → HasRead old x m → Delivers result told told' (output_so_far x m) (output_so_far x (m ++ piece)) (λ _. HasRead new x (m ++ piece))
