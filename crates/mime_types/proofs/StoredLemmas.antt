-- Parameters as a record in memory keeps them.
use Rattle.std.proofs.Common.{◌≡◌, ℕ, List, [], ◌∷◌, ◌||◌, bytes_eq, option_map, true, false, refl, ap}
use Rattle.std.specs.List.{list_any, find}
use Rattle.mime_types.specs.declared.parameters.Parameter.{Parameter}
use Rattle.mime_types.specs.Records.{has_name, value_of}
use Rattle.mime_types.specs.Stored.{pairs_in}

-- the test of each parameter is that of its pair
pub has_name_stored : (name : List ℕ) (kept : List Parameter)
    → list_any (λ p. bytes_eq p.name.items name) kept ≡ has_name name (pairs_in kept)
has_name_stored name [] = refl
has_name_stored name (p ∷ kept) = ap (λ rest. bytes_eq p.name.items name || rest) (has_name_stored name kept)

-- so is the value that is found
pub value_of_stored : (name : List ℕ) (kept : List Parameter)
    → option_map (λ p. p.value.items) (find (λ p. bytes_eq p.name.items name) kept) ≡ value_of name (pairs_in kept)
value_of_stored name [] = refl
value_of_stored name (p ∷ kept) =
    elim (bytes_eq p.name.items name) as (λ v. bytes_eq p.name.items name ≡ v
    → option_map (λ p. p.value.items) (find (λ p. bytes_eq p.name.items name) (p ∷ kept)) ≡ value_of name (pairs_in (p ∷ kept))) [
      | true ↦ λ same. rw same refl
      | false ↦ λ differ. rw differ (value_of_stored name kept)
    ] refl
