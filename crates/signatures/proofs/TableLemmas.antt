-- The first row of a table that matches, by its index.
use Rattle.std.proofs.Common.{◌≡◌, ℕ, suc, ◌+◌, Bool, List, [], ◌∷◌, ◌++◌, map, Option, None, Some, inl, inr, refl, sym, ap, ◌∙◌, arith}
use Rattle.std.specs.Prelude.{slice_get, position}
use Rattle.std.specs.List.{position_from}
use Rattle.std.proofs.lemmas.Bool.{cases_Bool}
use Rattle.std.proofs.lemmas.Iterator.Adapters.{position_from-zero}
use Rattle.signatures.specs.Rows.{first_match}

abbrev pub Table : Type 0 → Type 0
Table K = List ((List ℕ → Bool) × K)

-- the least index of a row that matches
abbrev pub index_in : {K : Type 0} → Table K → List ℕ → Option ℕ
index_in table window = position (λ row. row.0 window) table

-- what the row at an index shows, or the rows after the table
abbrev pub shown : {K : Type 0} → Table K → Option K → Option ℕ → Option K
shown table from_offset None = from_offset
shown table from_offset (Some k) = slice_get (map (λ row. row.1) table) k

abbrev later : Option ℕ → Option ℕ
later None = None
later (Some k) = Some (suc k)

position_from-later : {X : Type 0} (test : X → Bool) (xs : List X) (n : ℕ)
    → position_from test (n + 1) xs ≡ later (position_from test n xs)
position_from-later test [] n = refl
position_from-later test (x ∷ xs) n =
    elim (cases_Bool (test x)) [
      | inl is ↦ rw is (ap Some (omega arith))
      | inr is ↦ rw is (position_from-later test xs (n + 1))
    ]

shown-later : {K : Type 0} (row : (List ℕ → Bool) × K) (table : Table K) (from_offset : Option K) (o : Option ℕ)
    → shown (row ∷ table) from_offset (later o) ≡ shown table from_offset o
shown-later row table from_offset None = refl
shown-later row table from_offset (Some k) = refl

by_index : {K : Type 0} (table from_offset : Table K) (window : List ℕ)
    → first_match (table ++ from_offset) window ≡ shown table (first_match from_offset window) (position_from (λ row. row.0 window) 0 table)
by_index [] from_offset window = refl
by_index (row ∷ table) from_offset window =
    elim (cases_Bool (row.0 window)) [
      | inl is ↦ rw is refl
      | inr is ↦
          rw is (by_index table from_offset window
          ∙ sym (shown-later row table (first_match from_offset window) (position_from (λ r. r.0 window) 0 table))
          ∙ ap (shown (row ∷ table) (first_match from_offset window)) (sym (position_from-later (λ r. r.0 window) table 0)))
    ]

-- the type that a table gives a window, by the least index
pub first_match-by_index : {K : Type 0} (table from_offset : Table K) (window : List ℕ) (found : Option ℕ)
    → found ≡ index_in table window → shown table (first_match from_offset window) found ≡ first_match (table ++ from_offset) window
first_match-by_index table from_offset window found is =
    ap (shown table (first_match from_offset window)) (is ∙ position_from-zero (λ row. row.0 window) table)
    ∙ sym (by_index table from_offset window)
