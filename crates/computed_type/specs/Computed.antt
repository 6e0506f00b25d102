-- The computed type of a response.
use Rattle.std.specs.Prelude.{◌≡◌, ℕ, List, [], ◌∷◌, ◌++◌, Option, Some, None}
use Rattle.orb_bytes.specs.Ascii.{solidus}
use Rattle.mime_types.specs.Mime.{Mime}
use Rattle.mime_types.specs.Sets.{main_of, sub_of}
use Rattle.header_values.specs.Extracted.{IsExtracted}
use Rattle.computed_type.specs.declared.answer.Computed.{Computed}
use Rattle.computed_type.specs.declared.answer.Computed.TheVariants.{Supplied, Known}
use Rattle.computed_type.specs.Rules.{Response, type_instead}

abbrev pub response_of : List (List ℕ × List ℕ) → Option Mime → List ℕ → Response
response_of fields supplied window = record { fields = fields; supplied = supplied; window = window }

-- the essence of a type that is supplied, or the one in its place
abbrev pub essence_of : Option Mime → Option (List ℕ) → List ℕ
essence_of supplied (Some essence) = essence
essence_of (Some mime) None = mime.main ++ (solidus ∷ mime.sub)
essence_of None None = []

-- the fields state a type or none, and the first rule that applies to it gives this essence
pub record HasType (fields : List (List ℕ × List ℕ)) (window essence : List ℕ) : Type 0 where
  pub supplied : Option Mime
  pub states : IsExtracted fields supplied
  pub is : essence ≡ essence_of supplied (type_instead (response_of fields supplied window))

-- the answer is the essence of the type that the head states, or this one in its place
abbrev pub Gives : Computed → Option Mime → Option (List ℕ) → Type 0
Gives (Supplied e) (Some mime) None = (main_of e ≡ mime.main) × (sub_of e ≡ mime.sub)
Gives (Known name) supplied (Some essence) = name.now ≡ essence
Gives computed supplied instead = ⊥

-- the same of an answer
pub record IsComputed (fields : List (List ℕ × List ℕ)) (window : List ℕ) (computed : Computed) : Type 0 where
  pub supplied : Option Mime
  pub states : IsExtracted fields supplied
  pub gives : Gives computed supplied (type_instead (response_of fields supplied window))

-- its essence, in ASCII lowercase
abbrev pub essence_text : Computed → List ℕ
essence_text (Supplied e) = main_of e ++ (solidus ∷ sub_of e)
essence_text (Known name) = name.now
