-- Rows that a text begins with, and how they change with a byte more.
use Rattle.std.proofs.Common.{◌≡◌, ℕ, zero, suc, ◌+◌, ◌<◌, ◌≤◌, Bool, true, false, not, ◌&&◌, ◌||◌, ◌==◌, nat_lt, nat_le, List, [], ◌∷◌, ◌++◌, length, slice_index, get_or, bit_and, Option, None, Some, inl, inr, refl, sym, ap, ◌∙◌, length-append, arith}
use Rattle.std.specs.Prelude.{position, MatchOption}
use Rattle.std.specs.List.{list_all, list_any, position_from}
use Rattle.std.proofs.lemmas.Bool.{and_parts, and_from, or_cases, or_parts, or_right, false_from_ne_true}
use Rattle.std.proofs.Math.Bool.{and_assoc}
use Rattle.std.proofs.lemmas.Bool.Decides.{nat_tests, Decides-eqb}
use Rattle.std.proofs.lemmas.Iterator.Adapters.{position_from-zero}
use Rattle.orb_bytes.proofs.MaskedLemmas.{to_places}
use Rattle.orb_bytes.specs.declared.rows.Row.{Row}
use Rattle.orb_bytes.specs.Rows.{begins_masked, goes_on_masked, is_matched, is_just_matched, is_open, first_matched, is_row, is_at, has_place, fits_at, ends_with, goes_on_with}

-- ---- bytes under a mask, and one more

-- bytes that go on have a place at the text's end
pub goes_on_masked-place : (bytes mask text : List ℕ) → goes_on_masked bytes mask text ≡ true
    → (length text < length bytes) × (length text < length mask)
goes_on_masked-place [] mask text is = absurd (cc)
goes_on_masked-place (b ∷ bytes) [] text is = absurd (cc)
goes_on_masked-place (b ∷ bytes) (m ∷ mask) [] is = (omega arith, omega arith)
goes_on_masked-place (b ∷ bytes) (m ∷ mask) (t ∷ text) is =
    let more = goes_on_masked-place bytes mask text (and_parts (bit_and t m == b) (goes_on_masked bytes mask text) is).1 in
    (omega (arith, more.0), omega (arith, more.1))

abbrev fits : List ℕ → List ℕ → List ℕ → ℕ → Bool
fits bytes mask text b = bit_and b (slice_index mask (length text)) == slice_index bytes (length text)

one_less : (n m : ℕ) → (suc n + 1 == suc m) ≡ (n + 1 == m)
one_less n m = grind (arith, nat_tests)

-- the bytes go on with one more
pub goes_on_masked-more : (bytes mask text : List ℕ) (b : ℕ) → length mask ≡ length bytes
    → goes_on_masked bytes mask (text ++ b ∷ [])
    ≡ (goes_on_masked bytes mask text && (fits bytes mask text b && not (length text + 1 == length bytes)))
goes_on_masked-more [] mask text b same = refl
goes_on_masked-more (x ∷ bytes) [] text b same = absurd (omega arith)
goes_on_masked-more (x ∷ []) (m ∷ mask) [] b same = refl
goes_on_masked-more (x ∷ y ∷ bytes) (m ∷ []) [] b same = absurd (omega arith)
goes_on_masked-more (x ∷ y ∷ bytes) (m ∷ n ∷ mask) [] b same =
    let apart : (1 == suc (suc (length bytes))) ≡ false = grind (arith, nat_tests) in
    rw apart refl
goes_on_masked-more (x ∷ bytes) (m ∷ mask) (t ∷ text) b same =
    rw (goes_on_masked-more bytes mask text b (omega arith), one_less (length text) (length bytes))
    (sym (and_assoc (bit_and t m == x) (goes_on_masked bytes mask text) (fits bytes mask text b && not (length text + 1 == length bytes))))

-- the text begins with the bytes with one more
pub begins_masked-more : (bytes mask text : List ℕ) (b : ℕ) → length mask ≡ length bytes
    → begins_masked bytes mask (text ++ b ∷ [])
    ≡ (begins_masked bytes mask text || (goes_on_masked bytes mask text && (fits bytes mask text b && length text + 1 == length bytes)))
begins_masked-more [] mask text b same = refl
begins_masked-more (x ∷ bytes) [] text b same = absurd (omega arith)
begins_masked-more (x ∷ []) (m ∷ mask) [] b same = refl
begins_masked-more (x ∷ y ∷ bytes) (m ∷ []) [] b same = absurd (omega arith)
begins_masked-more (x ∷ y ∷ bytes) (m ∷ n ∷ mask) [] b same =
    let apart : (1 == suc (suc (length bytes))) ≡ false = grind (arith, nat_tests) in
    rw apart refl
begins_masked-more (x ∷ bytes) (m ∷ mask) (t ∷ text) b same =
    rw (begins_masked-more bytes mask text b (omega arith), one_less (length text) (length bytes))
    (shared (bit_and t m == x) (begins_masked bytes mask text) (goes_on_masked bytes mask text) (fits bytes mask text b && length text + 1 == length bytes)) where
      shared : (w x y z : Bool) → (w && (x || (y && z))) ≡ ((w && x) || ((w && y) && z))
      shared true x y z = refl
      shared false x y z = refl

-- ---- rows

-- a good row's mask is as long as its bytes, of which there is one
pub row_facts : (row : Row) → is_row row ≡ true → (length row.mask.now ≡ length row.bytes.now) × (1 ≤ length row.bytes.now)
row_facts row is =
    let parts = and_parts (length row.mask.now == length row.bytes.now) (nat_le 1 (length row.bytes.now) && nat_le (length row.bytes.now) 64) is in
    let some = (and_parts (nat_le 1 (length row.bytes.now)) (nat_le (length row.bytes.now) 64) parts.1).0 in
    ((Decides-eqb (length row.mask.now) (length row.bytes.now)).0 parts.0, grind (arith, nat_tests))

-- a good row with a byte more
is_open-more : (row : Row) → is_row row ≡ true → (text : List ℕ) (b : ℕ)
    → is_open (text ++ b ∷ []) row ≡ (is_open text row && goes_on_with (length text) b row)
is_open-more row good text b = goes_on_masked-more row.bytes.now row.mask.now text b (row_facts row good).0

is_matched-more : (row : Row) → is_row row ≡ true → (text : List ℕ) (b : ℕ)
    → is_matched (text ++ b ∷ []) row ≡ (is_matched text row || (is_open text row && ends_with (length text) b row))
is_matched-more row good text b = begins_masked-more row.bytes.now row.mask.now text b (row_facts row good).0

is_just_matched-more : (row : Row) → is_row row ≡ true → (text : List ℕ) (b : ℕ)
    → is_just_matched (text ++ b ∷ []) row ≡ (is_open text row && ends_with (length text) b row)
is_just_matched-more row good text b =
    rw (is_matched-more row good text b, length-append text (b ∷ []))
    (exactly (length row.bytes.now == length text + 1) (is_matched text row) (is_open text row) (fits_at (length text) b row) (length text + 1 == length row.bytes.now)
    (grind (arith, nat_tests))
    (λ is. let long = (to_places row.bytes.now row.mask.now text is).long in grind (arith, nat_tests))) where
      exactly : (short matched open_so fit last : Bool) → short ≡ last → (matched ≡ true → short ≡ false)
          → (short && (matched || (open_so && (fit && last)))) ≡ (open_so && (fit && last))
      exactly true true o f l same apart = absurd (cc (apart refl))
      exactly true false o f l same apart = refl
      exactly false m true true l same apart = same
      exactly false m true false l same apart = refl
      exactly false m false f l same apart = refl

-- ---- rows by index

-- an index at which a row passes a test is within
pub is_at-within : (test : Row → Bool) (rows : List Row) (i : ℕ) → is_at test rows i ≡ true → i < length rows
is_at-within test [] i is = absurd (cc)
is_at-within test (row ∷ rows) zero is = omega arith
is_at-within test (row ∷ rows) (suc i) is = omega (arith, is_at-within test rows i is)

-- two tests that agree on good rows
is_at-agree : (p q : Row → Bool) → ((row : Row) → is_row row ≡ true → p row ≡ q row)
    → (rows : List Row) → list_all is_row rows ≡ true → (i : ℕ) → is_at p rows i ≡ is_at q rows i
is_at-agree p q agree [] good i = refl
is_at-agree p q agree (row ∷ rows) good zero = agree row (and_parts (is_row row) (list_all is_row rows) good).0
is_at-agree p q agree (row ∷ rows) good (suc i) = is_at-agree p q agree rows (and_parts (is_row row) (list_all is_row rows) good).1 i

is_at-and : (p q : Row → Bool) (rows : List Row) (i : ℕ)
    → is_at (λ row. p row && q row) rows i ≡ (is_at p rows i && is_at q rows i)
is_at-and p q [] i = refl
is_at-and p q (row ∷ rows) zero = refl
is_at-and p q (row ∷ rows) (suc i) = is_at-and p q rows i

is_at-or : (p q : Row → Bool) (rows : List Row) (i : ℕ)
    → is_at (λ row. p row || q row) rows i ≡ (is_at p rows i || is_at q rows i)
is_at-or p q [] i = refl
is_at-or p q (row ∷ rows) zero = refl
is_at-or p q (row ∷ rows) (suc i) = is_at-or p q rows i

-- some row passes a test exactly where one at an index does
pub any-at : (test : Row → Bool) (rows : List Row) → list_any test rows ≡ true → (i : ℕ) × (is_at test rows i ≡ true)
any-at test [] is = absurd (cc)
any-at test (row ∷ rows) is = elim (or_cases (test row) (list_any test rows) is) [
  | inl here ↦ (0, here)
  | inr later ↦ let more = any-at test rows later in (suc more.0, more.1)
]

pub at-any : (test : Row → Bool) (rows : List Row) (i : ℕ) → is_at test rows i ≡ true → list_any test rows ≡ true
at-any test [] i is = absurd (cc)
at-any test (row ∷ rows) zero is = rw is refl
at-any test (row ∷ rows) (suc i) is = or_right (test row) (list_any test rows) (at-any test rows i is)

-- the first row that passes a test
at-position : (test : Row → Bool) (rows : List Row) (n : ℕ) (o : Option ℕ)
    → MatchOption o ((i : ℕ) → is_at test rows i ≡ false) (λ k. (is_at test rows k ≡ true) × ((i : ℕ) → i < k → is_at test rows i ≡ false))
    → position_from test n rows ≡ elim o [ None ↦ None | Some k ↦ Some (n + k) ]
at-position test [] n None is = refl
at-position test [] n (Some k) is = absurd (cc is.0)
at-position test (row ∷ rows) n None is = rw (is 0) (at-position test rows (n + 1) None (λ i. is (suc i)))
at-position test (row ∷ rows) n (Some zero) is = rw is.0 (ap Some (omega arith))
at-position test (row ∷ rows) n (Some (suc k)) is =
    rw (is.1 0 (omega arith))
    (at-position test rows (n + 1) (Some k) (is.0, λ i below. is.1 (suc i) (omega arith)) ∙ ap Some (omega arith))

pub position-at : (test : Row → Bool) (rows : List Row) (o : Option ℕ)
    → MatchOption o ((i : ℕ) → is_at test rows i ≡ false) (λ k. (is_at test rows k ≡ true) × ((i : ℕ) → i < k → is_at test rows i ≡ false))
    → o ≡ position test rows
position-at test rows o is =
    named o ∙ sym (at-position test rows 0 o is) ∙ sym (position_from-zero test rows) where
      named : (o : Option ℕ) → o ≡ elim o [ None ↦ None | Some k ↦ Some (0 + k) ]
      named None = refl
      named (Some k) = ap Some (omega arith)

-- nothing is no row, and each row goes on from there
pub open_first : (rows : List Row) → list_all is_row rows ≡ true → (i : ℕ) → is_at (is_open []) rows i ≡ nat_lt i (length rows)
open_first [] good i = grind (arith, nat_tests)
open_first (row ∷ rows) good zero =
    let facts = row_facts row (and_parts (is_row row) (list_all is_row rows) good).0 in
    let goes : is_open [] row ≡ true = some row.bytes.now row.mask.now facts.0 facts.1 in
    goes ∙ grind (arith, nat_tests) where
      some : (bytes mask : List ℕ) → length mask ≡ length bytes → 1 ≤ length bytes → goes_on_masked bytes mask [] ≡ true
      some [] mask same long = absurd (omega arith)
      some (b ∷ bytes) [] same long = absurd (omega arith)
      some (b ∷ bytes) (m ∷ mask) same long = refl
open_first (row ∷ rows) good (suc i) =
    open_first rows (and_parts (is_row row) (list_all is_row rows) good).1 i ∙ grind (arith, nat_tests)

pub none_first : (rows : List Row) → list_all is_row rows ≡ true → (i : ℕ) → is_at (is_matched []) rows i ≡ false
none_first rows good i =
    is_at-agree (is_matched []) (λ _. false) none rows good i ∙ nowhere rows i where
      none : (row : Row) → is_row row ≡ true → is_matched [] row ≡ false
      none row is = let facts = row_facts row is in
          false_from_ne_true (is_matched [] row) (λ whole. absurd (omega (arith, (to_places row.bytes.now row.mask.now [] whole).long)))

      nowhere : (rows : List Row) (i : ℕ) → is_at (λ _. false) rows i ≡ false
      nowhere [] i = refl
      nowhere (row ∷ rows) zero = refl
      nowhere (row ∷ rows) (suc i) = nowhere rows i

-- the rows of a text with a byte more, by their indices
pub is_open-more_at : (rows : List Row) → list_all is_row rows ≡ true → (text : List ℕ) (b i : ℕ)
    → is_at (is_open (text ++ b ∷ [])) rows i ≡ (is_at (is_open text) rows i && is_at (goes_on_with (length text) b) rows i)
is_open-more_at rows good text b i =
    is_at-agree (is_open (text ++ b ∷ [])) (λ row. is_open text row && goes_on_with (length text) b row) (λ row is. is_open-more row is text b) rows good i
    ∙ is_at-and (is_open text) (goes_on_with (length text) b) rows i

pub is_just_matched-more_at : (rows : List Row) → list_all is_row rows ≡ true → (text : List ℕ) (b i : ℕ)
    → is_at (is_just_matched (text ++ b ∷ [])) rows i ≡ (is_at (is_open text) rows i && is_at (ends_with (length text) b) rows i)
is_just_matched-more_at rows good text b i =
    is_at-agree (is_just_matched (text ++ b ∷ [])) (λ row. is_open text row && ends_with (length text) b row) (λ row is. is_just_matched-more row is text b) rows good i
    ∙ is_at-and (is_open text) (ends_with (length text) b) rows i

pub is_matched-more_at : (rows : List Row) → list_all is_row rows ≡ true → (text : List ℕ) (b i : ℕ)
    → is_at (is_matched (text ++ b ∷ [])) rows i
    ≡ (is_at (is_matched text) rows i || (is_at (is_open text) rows i && is_at (ends_with (length text) b) rows i))
is_matched-more_at rows good text b i =
    is_at-agree (is_matched (text ++ b ∷ [])) (λ row. is_matched text row || (is_open text row && ends_with (length text) b row)) (λ row is. is_matched-more row is text b) rows good i
    ∙ is_at-or (is_matched text) (λ row. is_open text row && ends_with (length text) b row) rows i
    ∙ ap (λ v. is_at (is_matched text) rows i || v) (is_at-and (is_open text) (ends_with (length text) b) rows i)

-- a place of a good row is below 64
pub place_below : (place : ℕ) (rows : List Row) (i : ℕ) → list_all is_row rows ≡ true → is_at (has_place place) rows i ≡ true → place < 64
place_below place [] i good is = absurd (cc)
place_below place (row ∷ rows) zero good is =
    let here = and_parts (is_row row) (list_all is_row rows) good in
    let lengths = and_parts (length row.mask.now == length row.bytes.now) (nat_le 1 (length row.bytes.now) && nat_le (length row.bytes.now) 64) here.0 in
    let most = (and_parts (nat_le 1 (length row.bytes.now)) (nat_le (length row.bytes.now) 64) lengths.1).1 in
    let within = (and_parts (nat_lt place (length row.bytes.now)) (nat_lt place (length row.mask.now)) is).0 in
    grind (arith, nat_tests)
place_below place (row ∷ rows) (suc i) good is =
    place_below place rows i (and_parts (is_row row) (list_all is_row rows) good).1 is

-- the row at an index
pub is_at-index : (test : Row → Bool) (rows : List Row) (i : ℕ) (d : Row) → i < length rows → is_at test rows i ≡ test (get_or rows i d)
is_at-index test [] i d within = absurd (omega arith)
is_at-index test (row ∷ rows) zero d within = refl
is_at-index test (row ∷ rows) (suc i) d within = is_at-index test rows i d (omega arith)

-- each good row has a first place
pub first_place : (rows : List Row) → list_all is_row rows ≡ true → (i : ℕ) → i < length rows → is_at (has_place 0) rows i ≡ true
first_place [] good i within = absurd (omega arith)
first_place (row ∷ rows) good zero within =
    let facts = row_facts row (and_parts (is_row row) (list_all is_row rows) good).0 in grind (arith, nat_tests)
first_place (row ∷ rows) good (suc i) within =
    first_place rows (and_parts (is_row row) (list_all is_row rows) good).1 i (omega arith)

-- a row that goes on has the next place
pub next_place : (rows : List Row) (place b : ℕ) → list_all is_row rows ≡ true → (i : ℕ) → is_at (has_place place) rows i ≡ true
    → is_at (goes_on_with place b) rows i ≡ true → is_at (has_place (place + 1)) rows i ≡ true
next_place [] place b good i has goes = absurd (cc)
next_place (row ∷ rows) place b good zero has goes =
    let facts = row_facts row (and_parts (is_row row) (list_all is_row rows) good).0 in
    let within = (and_parts (nat_lt place (length row.bytes.now)) (nat_lt place (length row.mask.now)) has).0 in
    let more = (and_parts (fits_at place b row) (not (place + 1 == length row.bytes.now)) goes).1 in
    let bytes : nat_lt (place + 1) (length row.bytes.now) ≡ true = grind (arith, nat_tests) in
    let mask : nat_lt (place + 1) (length row.mask.now) ≡ true = grind (arith, nat_tests) in
    and_from (nat_lt (place + 1) (length row.bytes.now)) (nat_lt (place + 1) (length row.mask.now)) bytes mask
next_place (row ∷ rows) place b good (suc i) has goes =
    next_place rows place b (and_parts (is_row row) (list_all is_row rows) good).1 i has goes

-- no row passes a test where none at an index does
pub any-none : (test : Row → Bool) (rows : List Row) → ((i : ℕ) → is_at test rows i ≡ false) → list_any test rows ≡ false
any-none test rows none =
    false_from_ne_true (list_any test rows) (λ is. let one = any-at test rows is in absurd (cc (none one.0)))

-- nothing is just a row
pub none_just : (rows : List Row) → list_all is_row rows ≡ true → list_any (is_just_matched []) rows ≡ false
none_just rows good =
    any-none (is_just_matched []) rows
    (λ i. is_at-and (λ row. length row.bytes.now == length {A = ℕ} []) (is_matched []) rows i
    ∙ rw (none_first rows good i) (never (is_at (λ row. length row.bytes.now == length {A = ℕ} []) rows i))) where
      never : (v : Bool) → (v && false) ≡ false
      never true = refl
      never false = refl

-- what doesn't go on stays whole, or not, whatever follows
closed_masked : (bytes mask text more : List ℕ) → goes_on_masked bytes mask text ≡ false
    → begins_masked bytes mask (text ++ more) ≡ begins_masked bytes mask text
closed_masked [] mask text more none = refl
closed_masked (b ∷ bytes) [] text more none = refl
closed_masked (b ∷ bytes) (m ∷ mask) [] more none = absurd (cc)
closed_masked (b ∷ bytes) (m ∷ mask) (t ∷ text) more none =
    here (bit_and t m == b) (closed_masked bytes mask text more) none where
      here : (v : Bool) → (goes_on_masked bytes mask text ≡ false → begins_masked bytes mask (text ++ more) ≡ begins_masked bytes mask text)
          → (v && goes_on_masked bytes mask text) ≡ false
          → (v && begins_masked bytes mask (text ++ more)) ≡ (v && begins_masked bytes mask text)
      here true later is = later is
      here false later is = refl

closed_position : (rows : List Row) (text more : List ℕ) (n : ℕ) → list_any (is_open text) rows ≡ false
    → position_from (is_matched (text ++ more)) n rows ≡ position_from (is_matched text) n rows
closed_position [] text more n none = refl
closed_position (row ∷ rows) text more n none =
    let parts = or_parts (is_open text row) (list_any (is_open text) rows) none in
    rw (closed_masked row.bytes.now row.mask.now text more parts.0, closed_position rows text more (n + 1) parts.1) refl

-- where no row is open, what comes changes nothing
pub first_matched-closed : (rows : List Row) (text more : List ℕ) → list_any (is_open text) rows ≡ false
    → first_matched rows (text ++ more) ≡ first_matched rows text
first_matched-closed rows text more none =
    position_from-zero (is_matched (text ++ more)) rows
    ∙ closed_position rows text more 0 none
    ∙ sym (position_from-zero (is_matched text) rows)
