-- How trimming goes a byte at a time.
use Rattle.std.proofs.Common.{◌≡◌, ℕ, ◌-◌, ◌≤◌, Bool, true, false, List, [], ◌∷◌, ◌++◌, get_or, take, reverse, refl, sym, ap, ◌∙◌, length, ◌+◌, arith}
use Rattle.std.specs.List.{list_all}
use Rattle.std.proofs.lemmas.Bool.{and_parts, and_from}
use Rattle.std.proofs.lemmas.List.{reverse-append, reverse-reverse, take_more, take_all}
use Rattle.orb_bytes.specs.Trim.{without_leading, without_trailing}

pub without_leading-more : (test : ℕ → Bool) (b : ℕ) (text : List ℕ) → test b ≡ true
    → without_leading test (b ∷ text) ≡ without_leading test text
without_leading-more test b text inside = rw inside refl

pub without_leading-stop : (test : ℕ → Bool) (b : ℕ) (text : List ℕ) → test b ≡ false
    → without_leading test (b ∷ text) ≡ b ∷ text
without_leading-stop test b text outside = rw outside refl

-- leading bytes of the class are lost
pub without_leading-append : (test : ℕ → Bool) (leading rest : List ℕ) → list_all test leading ≡ true
    → without_leading test (leading ++ rest) ≡ without_leading test rest
without_leading-append test [] rest all = refl
without_leading-append test (b ∷ leading) rest all =
    let parts = and_parts (test b) (list_all test leading) all in
    without_leading-more test b (leading ++ rest) parts.0 ∙ without_leading-append test leading rest parts.1

-- a text as its leading bytes of the class, and the rest
pub leading_of : (test : ℕ → Bool) (text : List ℕ)
    → (leading : List ℕ) × (list_all test leading ≡ true) × (text ≡ leading ++ without_leading test text)
leading_of test [] = ([], refl, refl)
leading_of test (b ∷ text) =
    elim (test b) as (λ v. test b ≡ v → (leading : List ℕ) × (list_all test leading ≡ true) × (b ∷ text ≡ leading ++ without_leading test (b ∷ text))) [
      | true ↦ λ inside. let more = leading_of test text in
          (b ∷ more.0, and_from (test b) (list_all test more.0) inside more.1, rw inside (ap (λ rest. b ∷ rest) more.2))
      | false ↦ λ outside. ([], refl, rw outside refl)
    ] refl

-- a text whose first byte is outside the class stays
pub without_leading-outside : (test : ℕ → Bool) (text : List ℕ) → 1 ≤ length text
    → test (get_or text 0 0) ≡ false → without_leading test text ≡ text
without_leading-outside test [] some outside = refl
without_leading-outside test (b ∷ text) some outside = without_leading-stop test b text outside

pub without_trailing-more : (test : ℕ → Bool) (text : List ℕ) (b : ℕ) → test b ≡ true
    → without_trailing test (text ++ b ∷ []) ≡ without_trailing test text
without_trailing-more test text b inside =
    rw reverse-append (ap reverse (without_leading-more test b (reverse text) inside))

pub without_trailing-stop : (test : ℕ → Bool) (text : List ℕ) (b : ℕ) → test b ≡ false
    → without_trailing test (text ++ b ∷ []) ≡ text ++ b ∷ []
without_trailing-stop test text b outside =
    ap (λ bs. reverse (without_leading test bs)) (reverse-append text (b ∷ []))
    ∙ ap reverse (without_leading-stop test b (reverse text) outside)
    ∙ ap reverse (sym (reverse-append text (b ∷ [])))
    ∙ reverse-reverse (text ++ b ∷ [])

-- a text as its last byte and those before it
pub ends_with_last : (text : List ℕ) → 1 ≤ length text
    → text ≡ take (length text - 1) text ++ get_or text (length text - 1) 0 ∷ []
ends_with_last text some =
    let n : ℕ = length text - 1 in
    let all : take (n + 1) text ≡ text = take_all (n + 1) text (omega arith) in
    sym all ∙ take_more text n 0 (omega arith)

-- a text whose last byte is inside the class loses it
pub without_trailing-inside : (test : ℕ → Bool) (text : List ℕ) → 1 ≤ length text
    → test (get_or text (length text - 1) 0) ≡ true
    → without_trailing test (take (length text - 1) text) ≡ without_trailing test text
without_trailing-inside test text some inside =
    sym (ap (without_trailing test) (ends_with_last text some)
    ∙ without_trailing-more test (take (length text - 1) text) (get_or text (length text - 1) 0) inside)

-- a text whose last byte is outside the class stays
pub without_trailing-outside : (test : ℕ → Bool) (text : List ℕ) → 1 ≤ length text
    → test (get_or text (length text - 1) 0) ≡ false → without_trailing test text ≡ text
without_trailing-outside test text some outside =
    ap (without_trailing test) (ends_with_last text some)
    ∙ without_trailing-stop test (take (length text - 1) text) (get_or text (length text - 1) 0) outside
    ∙ sym (ends_with_last text some)
