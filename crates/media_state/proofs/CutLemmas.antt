-- How a text is cut at its first byte of a value, and put together again.
use Rattle.std.proofs.Common.{◌≡◌, ℕ, suc, ◌+◌, ◌-◌, ◌≤◌, nat_lt, Some, None, drop_of_length-le, length-drop, Bool, true, false, not, ◌==◌, cond, List, [], ◌∷◌, ◌++◌, length, take, drop, ◌⊎◌, inl, inr, refl, sym, ap, ◌∙◌, arith}
use Rattle.std.specs.List.{list_all, position, position_or_len}
use Rattle.std.proofs.lemmas.Bool.{and_parts, not-true, eq-eqb, cases_Bool, ltb-false}
use Rattle.std.proofs.lemmas.Bool.Decides.{eqb_tells}
use Rattle.std.proofs.lemmas.List.{take_all}
use Rattle.media_state.specs.Range.{before_byte, after_byte}

abbrev pub HasNo : ℕ → List ℕ → Type 0
HasNo stop text = list_all (λ b. not (b == stop)) text ≡ true

pub before_byte-stop : (stop b : ℕ) (text : List ℕ) → (b == stop) ≡ true → before_byte stop (b ∷ text) ≡ []
before_byte-stop stop b text is = rw is refl

pub after_byte-stop : (stop b : ℕ) (text : List ℕ) → (b == stop) ≡ true → after_byte stop (b ∷ text) ≡ text
after_byte-stop stop b text is = rw is refl

pub before_byte-more : (stop b : ℕ) (text : List ℕ) → (b == stop) ≡ false
    → before_byte stop (b ∷ text) ≡ b ∷ before_byte stop text
before_byte-more stop b text other =
    let n : ℕ = position_or_len (λ c. c == stop) text in
    let next : 1 + n ≡ suc n = omega arith in
    ap (λ v. take (cond (not v) (1 + n) 0) (b ∷ text)) other ∙ ap (λ m. take m (b ∷ text)) next

pub after_byte-more : (stop b : ℕ) (text : List ℕ) → (b == stop) ≡ false
    → after_byte stop (b ∷ text) ≡ after_byte stop text
after_byte-more stop b text other =
    let n : ℕ = position_or_len (λ c. c == stop) text in
    let next : (1 + n) + 1 ≡ suc (n + 1) = omega arith in
    ap (λ v. drop (cond (not v) (1 + n) 0 + 1) (b ∷ text)) other ∙ ap (λ m. drop m (b ∷ text)) next

-- where something stands after the byte, the text is what stands before it, the byte, and that
pub rejoined : (stop : ℕ) (text : List ℕ)
    → (text ≡ before_byte stop text ++ (stop ∷ after_byte stop text)) ⊎ (after_byte stop text ≡ [])
rejoined stop [] = inr refl
rejoined stop (b ∷ text) =
    elim (eqb_tells b stop) [
      | inl here ↦
          let before = before_byte-stop stop b text here.0 in
          let after = after_byte-stop stop b text here.0 in
          let same = here.1 in
          inl (rw (before, after) (ap (λ c. c ∷ text) same))
      | inr other ↦
          let before = before_byte-more stop b text other.0 in
          let after = after_byte-more stop b text other.0 in
          elim (rejoined stop text) [
            | inl whole ↦ inl (rw (before, after) (ap (λ rest. b ∷ rest) whole))
            | inr none ↦ inr (after ∙ none)
          ]
    ]

-- a text made of a prefix without the byte, the byte and a back is cut into these
pub cut_again : (stop : ℕ) (prefix back : List ℕ) → HasNo stop prefix
    → (before_byte stop (prefix ++ (stop ∷ back)) ≡ prefix) × (after_byte stop (prefix ++ (stop ∷ back)) ≡ back)
cut_again stop [] back none =
    (before_byte-stop stop stop back (eq-eqb stop stop refl), after_byte-stop stop stop back (eq-eqb stop stop refl))
cut_again stop (b ∷ prefix) back none =
    let parts = and_parts (not (b == stop)) (list_all (λ c. not (c == stop)) prefix) none in
    let other = not-true (b == stop) parts.0 in
    let more = cut_again stop prefix back parts.1 in (
      before_byte-more stop b (prefix ++ (stop ∷ back)) other ∙ ap (λ rest. b ∷ rest) more.0,
      after_byte-more stop b (prefix ++ (stop ∷ back)) other ∙ more.1,
    )

-- a test that follows from another on each byte
pub list_all-weaker : (p q : ℕ → Bool) → ((b : ℕ) → p b ≡ true → q b ≡ true) → (text : List ℕ)
    → list_all p text ≡ true → list_all q text ≡ true
list_all-weaker p q follows [] is = refl
list_all-weaker p q follows (b ∷ text) is =
    let parts = and_parts (p b) (list_all p text) is in
    rw (follows b parts.0) (list_all-weaker p q follows text parts.1)

-- the place that a search finds is the one at which the text is cut
found_at : (stop : ℕ) (text : List ℕ) (place : ℕ) → position (λ b. b == stop) text ≡ Some place
    → position_or_len (λ b. b == stop) text ≡ place
found_at stop text place is =
    elim (cases_Bool (nat_lt (position_or_len (λ b. b == stop) text) (length text))) [
      | inl within ↦ let some = rw within at is in cc
      | inr outside ↦ absurd (let none = rw outside at is in cc)
    ]

not_found : (stop : ℕ) (text : List ℕ) → position (λ b. b == stop) text ≡ None
    → length text ≤ position_or_len (λ b. b == stop) text
not_found stop text is =
    elim (cases_Bool (nat_lt (position_or_len (λ b. b == stop) text) (length text))) [
      | inl within ↦ absurd (let some = rw within at is in cc)
      | inr outside ↦ ltb-false (position_or_len (λ b. b == stop) text) (length text) outside
    ]

pub found_before : (stop : ℕ) (text : List ℕ) (place : ℕ) → position (λ b. b == stop) text ≡ Some place
    → take place text ≡ before_byte stop text
found_before stop text place is = ap (λ n. take n text) (sym (found_at stop text place is))

pub found_after : (stop : ℕ) (text : List ℕ) (place : ℕ) → position (λ b. b == stop) text ≡ Some place
    → take (length text - (place + 1)) (drop (place + 1) text) ≡ after_byte stop text
found_after stop text place is =
    take_all (length text - (place + 1)) (drop (place + 1) text) (omega (arith, length-drop (place + 1) text))
    ∙ ap (λ n. drop (n + 1) text) (sym (found_at stop text place is))

pub all_before : (stop : ℕ) (text : List ℕ) → position (λ b. b == stop) text ≡ None → text ≡ before_byte stop text
all_before stop text is =
    sym (take_all (position_or_len (λ b. b == stop) text) text (not_found stop text is))

pub none_after : (stop : ℕ) (text : List ℕ) → position (λ b. b == stop) text ≡ None → [] ≡ after_byte stop text
none_after stop text is =
    sym (drop_of_length-le text (omega (arith, not_found stop text is)))
