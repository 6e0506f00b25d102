-- Rows at the beginning of a text with a byte after them that ends a tag.
use Rattle.std.proofs.Common.{◌≡◌, ℕ, zero, suc, ◌<◌, Bool, true, false, ◌&&◌, ◌==◌, List, [], ◌∷◌, ◌++◌, length, get_or, take, drop, bit_and, refl, sym, ap, ◌∙◌, inl, inr, eq-eqb, arith}
use Rattle.std.specs.List.{list_any}
use Rattle.std.proofs.lemmas.List.{take-append-drop, length-take}
use Rattle.std.proofs.lemmas.Bool.{and_parts, and_from, or_cases, or_right, false_from_ne_true, cases_lt, cases_eq, eqb-true}
use Rattle.orb_bytes.specs.Bytes.{is_tag_terminating}
use Rattle.orb_bytes.specs.declared.rows.Row.{Row}
use Rattle.orb_bytes.specs.Rows.{begins_masked, goes_on_masked, is_matched, is_just_matched, is_open}
use Rattle.corb_sniffers.specs.HtmlReading.{begins_ending, begins_with_ended}

longer_text : (bytes mask text more : List ℕ) → begins_masked bytes mask text ≡ true → begins_masked bytes mask (text ++ more) ≡ true
longer_text [] mask text more is = refl
longer_text (b ∷ bytes) [] text more is = absurd (cc)
longer_text (b ∷ bytes) (m ∷ mask) [] more is = absurd (cc)
longer_text (b ∷ bytes) (m ∷ mask) (t ∷ text) more is =
    let parts = and_parts (bit_and t m == b) (begins_masked bytes mask text) is in
    and_from (bit_and t m == b) (begins_masked bytes mask (text ++ more)) parts.0 (longer_text bytes mask text more parts.1)

just_text : (bytes mask text : List ℕ) → begins_masked bytes mask text ≡ true → begins_masked bytes mask (take (length bytes) text) ≡ true
just_text [] mask text is = refl
just_text (b ∷ bytes) [] text is = absurd (cc)
just_text (b ∷ bytes) (m ∷ mask) [] is = absurd (cc)
just_text (b ∷ bytes) (m ∷ mask) (t ∷ text) is =
    let parts = and_parts (bit_and t m == b) (begins_masked bytes mask text) is in
    and_from (bit_and t m == b) (begins_masked bytes mask (take (length bytes) text)) parts.0 (just_text bytes mask text parts.1)

shorter_text : (bytes mask text : List ℕ) (n : ℕ) → begins_masked bytes mask text ≡ true → n < length bytes
    → goes_on_masked bytes mask (take n text) ≡ true
shorter_text [] mask text n is below = absurd (omega arith)
shorter_text (b ∷ bytes) [] text n is below = absurd (cc)
shorter_text (b ∷ bytes) (m ∷ mask) [] n is below = absurd (cc)
shorter_text (b ∷ bytes) (m ∷ mask) (t ∷ text) zero is below = refl
shorter_text (b ∷ bytes) (m ∷ mask) (t ∷ text) (suc n) is below =
    let parts = and_parts (bit_and t m == b) (begins_masked bytes mask text) is in
    and_from (bit_and t m == b) (goes_on_masked bytes mask (take n text)) parts.0 (shorter_text bytes mask text n parts.1 (omega arith))

-- a row that passes a test, and with it any other test that it passes
some_row : (test : Row → Bool) (rows : List Row) → list_any test rows ≡ true
    → (row : Row) × (test row ≡ true) × ((other : Row → Bool) → other row ≡ true → list_any other rows ≡ true)
some_row test [] is = absurd (cc)
some_row test (row ∷ rows) is =
    elim (or_cases (test row) (list_any test rows) is) [
      | inl here ↦ (row, here, λ other so. rw so refl)
      | inr later ↦
          let more = some_row test rows later in
          (more.0, more.1, λ other so. or_right (other row) (list_any other rows) (more.2 other so))
    ]

ends_within : (n : ℕ) (text : List ℕ) → begins_ending (drop n text) ≡ true → n < length text
ends_within zero [] is = absurd (cc)
ends_within zero (b ∷ text) is = omega arith
ends_within (suc n) [] is = absurd (cc)
ends_within (suc n) (b ∷ text) is = omega (arith, ends_within n text is)

-- a row that the first bytes just are, and an end after it
pub ended_row : (rows : List Row) (text : List ℕ) (n : ℕ) → list_any (is_just_matched (take n text)) rows ≡ true
    → begins_ending (drop n text) ≡ true → list_any (begins_with_ended text) rows ≡ true
ended_row rows text n just ends =
    let found = some_row (is_just_matched (take n text)) rows just in
    let row = found.0 in
    let parts = and_parts (length row.bytes.now == length (take n text)) (is_matched (take n text) row) found.1 in
    let within = ends_within n text ends in
    let long : length row.bytes.now ≡ n = omega (arith, eqb-true (length row.bytes.now) (length (take n text)) parts.0, length-take n text) in
    found.2 (begins_with_ended text)
    (and_from (is_matched text row) (begins_ending (drop (length row.bytes.now) text))
    (ap (λ t. is_matched t row) (sym (take-append-drop n text)) ∙ longer_text row.bytes.now row.mask.now (take n text) (drop n text) parts.1)
    (ap (λ k. begins_ending (drop k text)) long ∙ ends))

-- where none of the first places has one, and none is open after them, there is none
pub no_ended_row : (rows : List Row) (text : List ℕ) (n : ℕ)
    → ((k : ℕ) → k < n → (list_any (is_just_matched (take k text)) rows && begins_ending (drop k text)) ≡ false)
    → (n < length text → list_any (is_open (take n text)) rows ≡ false)
    → (n < length text → (list_any (is_just_matched (take n text)) rows && begins_ending (drop n text)) ≡ false)
    → list_any (begins_with_ended text) rows ≡ false
no_ended_row rows text n none closed here =
    false_from_ne_true (list_any (begins_with_ended text) rows) (λ is. never (some_row (begins_with_ended text) rows is)) where
      never : ((row : Row) × (begins_with_ended text row ≡ true) × ((other : Row → Bool) → other row ≡ true → list_any other rows ≡ true)) → ⊥
      never found =
          let row = found.0 in
          let long = length row.bytes.now in
          let parts = and_parts (is_matched text row) (begins_ending (drop long text)) found.1 in
          let within = ends_within long text parts.1 in
          let just = found.2 (is_just_matched (take long text))
          (and_from (long == length (take long text)) (is_matched (take long text) row)
          (eq-eqb long (length (take long text)) (omega (arith, length-take long text)))
          (just_text row.bytes.now row.mask.now text parts.0)) in
          let both = and_from (list_any (is_just_matched (take long text)) rows) (begins_ending (drop long text)) just parts.1 in
          elim (cases_lt long n) [
            | inl before ↦ absurd (cc (none long before))
            | inr after ↦ elim (cases_eq long n) [
              | inl same ↦
                  let lie : (list_any (is_just_matched (take long text)) rows && begins_ending (drop long text)) ≡ false =
                  ap (λ k. list_any (is_just_matched (take k text)) rows && begins_ending (drop k text)) same ∙ here (omega arith) in
                  absurd (cc)
              | inr apart ↦
                  let opened = found.2 (is_open (take n text)) (shorter_text row.bytes.now row.mask.now text n parts.0 (omega arith)) in
                  absurd (cc (closed (omega arith)))
            ]
          ]

-- whether the byte at a place ends a tag
pub ending_at : (text : List ℕ) (n : ℕ) → n < length text → begins_ending (drop n text) ≡ is_tag_terminating (get_or text n 0)
ending_at [] n below = absurd (omega arith)
ending_at (b ∷ text) zero below = refl
ending_at (b ∷ text) (suc n) below = ending_at text n (omega arith)
