-- Walks, byte by byte.
use Rattle.std.proofs.Common.{◌≡◌, ℕ, ◌+◌, ◌<◌, ◌≤◌, Bool, true, false, not, ◌&&◌, ◌||◌, ◌==◌, nat_lt, nat_le, List, [], ◌∷◌, ◌++◌, length, get_or, slice_index, bit_and, refl, sym, ap, ◌∙◌, subst, inl, inr, eq-eqb, ne_eqb, length-append, arith}
use Rattle.std.specs.Prelude.{MatchBool, MatchOption, Option, None, Some}
use Rattle.std.specs.List.{list_all, list_any}
use Rattle.std.proofs.lemmas.Bool.{and_parts, cases_eq}
use Rattle.std.proofs.lemmas.Bool.Decides.{nat_tests}
use Rattle.orb_bytes.specs.declared.rows.Row.{Row}
use Rattle.orb_bytes.specs.declared.row_sets.RowSet.{RowSet}
use Rattle.orb_bytes.specs.declared.walks.Walk.{Walk}
use Rattle.orb_bytes.specs.Rows.{are_rows, is_row, first_matched, is_at, has_place, is_open, is_matched, is_just_matched, ends_with, goes_on_with}
use Rattle.orb_bytes.specs.RowSets.{has, IsEmpty, HasSome, IsFirst}
use Rattle.orb_bytes.specs.Walks.{HasRead}
use Rattle.orb_bytes.proofs.RowLemmas.{is_at-within, is_at-index, is_open-more_at, is_matched-more_at, is_just_matched-more_at, any-none, at-any, position-at}

pub rows_good : (rows : List Row) → are_rows rows ≡ true → (length rows ≤ 32) × (list_all is_row rows ≡ true)
rows_good rows good =
    let parts = and_parts (nat_le (length rows) 32) (list_all is_row rows) good in
    (grind (arith, nat_tests), parts.1)

-- ---- the rows that a byte fits, one row after the other

-- one row more is known of a set
abbrev pub Adds : (old new : RowSet) (k : ℕ) (is : Bool) → Type 0
Adds old new k is = (i : ℕ) → has new i ≡ ((i == k && is) || has old i)

-- a set has the rows of all but those that are left that pass the test
abbrev pub IsKnown : (all left known : RowSet) (test : ℕ → Bool) → Type 0
IsKnown all left known test = (i : ℕ) → has known i ≡ (has all i && (not (has left i) && test i))

pub looked_at : (all left rest old new : RowSet) (test : ℕ → Bool) (k : ℕ) → has left k ≡ true
    → ((i : ℕ) → has left i ≡ true → has all i ≡ true)
    → ((i : ℕ) → has rest i ≡ (not (i == k) && has left i))
    → IsKnown all left old test → Adds old new k (test k) → IsKnown all rest new test
looked_at all left rest old new test k here within fewer so_far one i =
    elim (cases_eq i k) [
      | inl same ↦ subst (λ j. has new j ≡ (has all j && (not (has rest j) && test j))) (sym same) at_k
      | inr other ↦
          one i ∙ rw (ne_eqb i k other, fewer i) (rw (ne_eqb i k other) (so_far i))
    ] where
      at_k : has new k ≡ (has all k && (not (has rest k) && test k))
      at_k =
          let gone : has rest k ≡ false = fewer k ∙ rw (eq-eqb k k refl) refl in
          let none : has old k ≡ false = so_far k ∙ rw (here, within k here) refl in
          one k ∙ rw (eq-eqb k k refl, none, within k here, gone) (tidy (test k)) where
            tidy : (v : Bool) → (v || false) ≡ v
            tidy true = refl
            tidy false = refl

-- a row that is looked at has the place
pub place_within : (rows : List Row) (place k : ℕ) (d : Row) → is_at (has_place place) rows k ≡ true
    → (k < length rows) × ((place < length (get_or rows k d).bytes.now) × (place < length (get_or rows k d).mask.now))
place_within rows place k d is =
    let within = is_at-within (has_place place) rows k is in
    let parts = and_parts (nat_lt place (length (get_or rows k d).bytes.now)) (nat_lt place (length (get_or rows k d).mask.now))
    (sym (is_at-index (has_place place) rows k d within) ∙ is) in
    (within, (grind (arith, nat_tests), grind (arith, nat_tests)))

pub not_added : (old new : RowSet) (k : ℕ) (is : Bool) → is ≡ false → new ≡ old → Adds old new k is
not_added old new k is fails same i = rw (fails, same) (unchanged (i == k) (has old i)) where
  unchanged : (e v : Bool) → v ≡ ((e && false) || v)
  unchanged true v = refl
  unchanged false v = refl

pub added : (old new set : RowSet) (k : ℕ) (is : Bool) → is ≡ true → new ≡ set → ((i : ℕ) → has set i ≡ (i == k || has old i)) → Adds old new k is
added old new set k is passes same insert i = rw (passes, same) (insert i ∙ changed (i == k) (has old i)) where
  changed : (e v : Bool) → (e || v) ≡ ((e && true) || v)
  changed true v = refl
  changed false v = refl

-- what the tests of a byte at a row say
pub tells_ends : (rows : List Row) (place b k : ℕ) (d : Row) → k < length rows
    → bit_and b (slice_index (get_or rows k d).mask.now place) ≡ slice_index (get_or rows k d).bytes.now place
    → place + 1 ≡ length (get_or rows k d).bytes.now
    → (is_at (ends_with place b) rows k ≡ true) × (is_at (goes_on_with place b) rows k ≡ false)
tells_ends rows place b k d within fits last = (
  is_at-index (ends_with place b) rows k d within ∙ rw (eq-eqb _ _ fits, eq-eqb _ _ last) refl,
  is_at-index (goes_on_with place b) rows k d within ∙ rw (eq-eqb _ _ fits, eq-eqb _ _ last) refl,
)

pub tells_goes_on : (rows : List Row) (place b k : ℕ) (d : Row) → k < length rows
    → bit_and b (slice_index (get_or rows k d).mask.now place) ≡ slice_index (get_or rows k d).bytes.now place
    → ¬ (place + 1 ≡ length (get_or rows k d).bytes.now)
    → (is_at (ends_with place b) rows k ≡ false) × (is_at (goes_on_with place b) rows k ≡ true)
tells_goes_on rows place b k d within fits last = (
  is_at-index (ends_with place b) rows k d within ∙ rw (eq-eqb _ _ fits, ne_eqb _ _ last) refl,
  is_at-index (goes_on_with place b) rows k d within ∙ rw (eq-eqb _ _ fits, ne_eqb _ _ last) refl,
)

pub tells_neither : (rows : List Row) (place b k : ℕ) (d : Row) → k < length rows
    → ¬ (bit_and b (slice_index (get_or rows k d).mask.now place) ≡ slice_index (get_or rows k d).bytes.now place)
    → (is_at (ends_with place b) rows k ≡ false) × (is_at (goes_on_with place b) rows k ≡ false)
tells_neither rows place b k d within differs = (
  is_at-index (ends_with place b) rows k d within ∙ rw (ne_eqb _ _ differs) refl,
  is_at-index (goes_on_with place b) rows k d within ∙ rw (ne_eqb _ _ differs) refl,
)

-- ---- what a walk knows of the text, with a byte more

good_rows : (walk : Walk) (rows : List Row) (text : List ℕ) → HasRead walk rows text → list_all is_row rows ≡ true
good_rows walk rows text h = (rows_good rows (rw h.over at walk.good)).1

-- the tests are asked of the rows that are open, at the text's end
at_end : (walk : Walk) (rows : List Row) (text : List ℕ) (test : ℕ → Row → Bool) (set : RowSet) → HasRead walk rows text
    → ((i : ℕ) → has set i ≡ (has walk.open_rows i && is_at (test walk.place) walk.rows.now i))
    → (i : ℕ) → has set i ≡ (is_at (is_open text) rows i && is_at (test (length text)) rows i)
at_end walk rows text test set h is i =
    is i ∙ ap (λ r. has walk.open_rows i && is_at (test walk.place) r i) h.over
    ∙ placed (has walk.open_rows i) refl ∙ ap (λ v. v && is_at (test (length text)) rows i) (h.open_rows i) where
      placed : (v : Bool) → has walk.open_rows i ≡ v
          → (has walk.open_rows i && is_at (test walk.place) rows i) ≡ (has walk.open_rows i && is_at (test (length text)) rows i)
      placed true so = ap (λ p. has walk.open_rows i && is_at (test p) rows i) (h.place i so)
      placed false so = rw so refl

pub more_open : (walk : Walk) (rows : List Row) (text : List ℕ) (b : ℕ) (going_on : RowSet) → HasRead walk rows text
    → ((i : ℕ) → has going_on i ≡ (has walk.open_rows i && is_at (goes_on_with walk.place b) walk.rows.now i))
    → (i : ℕ) → has going_on i ≡ is_at (is_open (text ++ b ∷ [])) rows i
more_open walk rows text b going_on h is i =
    at_end walk rows text (λ p. goes_on_with p b) going_on h is i
    ∙ sym (is_open-more_at rows (good_rows walk rows text h) text b i)

pub more_just : (walk : Walk) (rows : List Row) (text : List ℕ) (b : ℕ) (ending : RowSet) → HasRead walk rows text
    → ((i : ℕ) → has ending i ≡ (has walk.open_rows i && is_at (ends_with walk.place b) walk.rows.now i))
    → (i : ℕ) → has ending i ≡ is_at (is_just_matched (text ++ b ∷ [])) rows i
more_just walk rows text b ending h is i =
    at_end walk rows text (λ p. ends_with p b) ending h is i
    ∙ sym (is_just_matched-more_at rows (good_rows walk rows text h) text b i)

pub more_whole : (walk : Walk) (rows : List Row) (text : List ℕ) (b : ℕ) (ending whole : RowSet) → HasRead walk rows text
    → ((i : ℕ) → has ending i ≡ (has walk.open_rows i && is_at (ends_with walk.place b) walk.rows.now i))
    → ((i : ℕ) → has whole i ≡ (has walk.whole_rows i || has ending i))
    → (i : ℕ) → has whole i ≡ is_at (is_matched (text ++ b ∷ [])) rows i
more_whole walk rows text b ending whole h is both i =
    both i ∙ rw (h.whole_rows i, at_end walk rows text (λ p. ends_with p b) ending h is i)
    (sym (is_matched-more_at rows (good_rows walk rows text h) text b i))

-- a set is empty exactly where no row passes the test that it stands for
pub some_row : (test : Row → Bool) (rows : List Row) (set : RowSet) (none : Bool) → MatchBool none (IsEmpty set) (HasSome set)
    → ((i : ℕ) → has set i ≡ is_at test rows i) → not none ≡ list_any test rows
some_row test rows set true empty is = sym (any-none test rows (λ i. sym (is i) ∙ empty i))
some_row test rows set false some is = sym (at-any test rows some.0 (sym (is some.0) ∙ some.1))

pub more_place : (walk : Walk) (rows : List Row) (text : List ℕ) (b : ℕ) (going_on : RowSet) → HasRead walk rows text
    → ((i : ℕ) → has going_on i ≡ (has walk.open_rows i && is_at (goes_on_with walk.place b) walk.rows.now i))
    → (i : ℕ) → has going_on i ≡ true → walk.place + 1 ≡ length (text ++ b ∷ [])
more_place walk rows text b going_on h is i there =
    let before = (and_parts (has walk.open_rows i) (is_at (goes_on_with walk.place b) walk.rows.now i) (sym (is i) ∙ there)).0 in
    omega (arith, h.place i before, length-append text (b ∷ []))

-- where no row is open, a byte changes nothing
pub closed_open : (walk : Walk) (rows : List Row) (text : List ℕ) (b : ℕ) → HasRead walk rows text → IsEmpty walk.open_rows
    → (i : ℕ) → has walk.open_rows i ≡ is_at (is_open (text ++ b ∷ [])) rows i
closed_open walk rows text b h none i =
    none i ∙ sym (is_open-more_at rows (good_rows walk rows text h) text b i ∙ rw (sym (h.open_rows i) ∙ none i) refl)

pub closed_whole : (walk : Walk) (rows : List Row) (text : List ℕ) (b : ℕ) → HasRead walk rows text → IsEmpty walk.open_rows
    → (i : ℕ) → has walk.whole_rows i ≡ is_at (is_matched (text ++ b ∷ [])) rows i
closed_whole walk rows text b h none i =
    h.whole_rows i ∙ sym (is_matched-more_at rows (good_rows walk rows text h) text b i ∙ rw (sym (h.open_rows i) ∙ none i) (tidy (is_at (is_matched text) rows i))) where
      tidy : (v : Bool) → (v || false) ≡ v
      tidy true = refl
      tidy false = refl

pub closed_just : (walk : Walk) (rows : List Row) (text : List ℕ) (b : ℕ) → HasRead walk rows text → IsEmpty walk.open_rows
    → false ≡ list_any (is_just_matched (text ++ b ∷ [])) rows
closed_just walk rows text b h none =
    sym (any-none (is_just_matched (text ++ b ∷ [])) rows
    (λ i. is_just_matched-more_at rows (good_rows walk rows text h) text b i ∙ rw (sym (h.open_rows i) ∙ none i) refl))

-- the least index of the rows that were matched
pub first_whole : (walk : Walk) (rows : List Row) (text : List ℕ) → HasRead walk rows text → (o : Option ℕ)
    → MatchOption o (IsEmpty walk.whole_rows) (IsFirst walk.whole_rows) → o ≡ first_matched rows text
first_whole walk rows text h None is =
    position-at (is_matched text) rows None (λ i. sym (h.whole_rows i) ∙ is i)
first_whole walk rows text h (Some k) is =
    position-at (is_matched text) rows (Some k)
    (sym (h.whole_rows k) ∙ is.there, λ i below. sym (h.whole_rows i) ∙ is.before i below)
