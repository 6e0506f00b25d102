-- Texts and the bytes of a class at their ends.
use Rattle.std.proofs.Common.{◌≡◌, ℕ, zero, suc, ◌-◌, ◌<◌, Bool, true, false, not, List, [], ◌∷◌, ◌++◌, length, get_or, reverse, refl, sym, ap, ◌∙◌, ◌&&◌, append_assoc, append-nil, arith}
use Rattle.std.specs.List.{list_all}
use Rattle.std.proofs.lemmas.List.{reverse-append, reverse-reverse}
use Rattle.std.proofs.lemmas.List.Folds.{list_all-append}
use Rattle.std.proofs.lemmas.Bool.{and_parts, and_from}
use Rattle.orb_bytes.specs.Trim.{without_leading, without_trailing}
use Rattle.mime_types.specs.Spans.{begins_outside}
use Rattle.orb_bytes.proofs.TrimLemmas.{leading_of, without_trailing-more, without_trailing-outside}
use Rattle.mime_types.proofs.BoolLemmas.{false_from_not}

pub list_all_at : (test : ℕ → Bool) (text : List ℕ) (k d : ℕ) → k < length text → list_all test text ≡ true
    → test (get_or text k d) ≡ true
list_all_at test [] k d within are = absurd (omega arith)
list_all_at test (b ∷ text) zero d within are = (and_parts (test b) (list_all test text) are).0
list_all_at test (b ∷ text) (suc k) d within are =
    list_all_at test text k d (omega arith) (and_parts (test b) (list_all test text) are).1

pub list_all-reverse : (test : ℕ → Bool) (text : List ℕ) → list_all test text ≡ true → list_all test (reverse text) ≡ true
list_all-reverse test [] are = refl
list_all-reverse test (b ∷ text) are =
    let parts = and_parts (test b) (list_all test text) are in
    ap (list_all test) (reverse-append (b ∷ []) text) ∙ list_all-append test (reverse text) (b ∷ [])
    ∙ and_from (list_all test (reverse text)) (test b && true) (list_all-reverse test text parts.1)
    (and_from (test b) true parts.0 refl)

-- bytes of the class after a text go
pub without_trailing-append : (test : ℕ → Bool) (text trailing : List ℕ) → list_all test trailing ≡ true
    → without_trailing test (text ++ trailing) ≡ without_trailing test text
without_trailing-append test text [] are = ap (without_trailing test) (append-nil text)
without_trailing-append test text (b ∷ trailing) are =
    let parts = and_parts (test b) (list_all test trailing) are in
    ap (without_trailing test) (sym (append_assoc text (b ∷ []) trailing))
    ∙ without_trailing-append test (text ++ b ∷ []) trailing parts.1
    ∙ without_trailing-more test text b parts.0

-- what is left begins with none of it
pub without_leading_begins : (test : ℕ → Bool) (text : List ℕ) → begins_outside test (without_leading test text) ≡ true
without_leading_begins test [] = refl
without_leading_begins test (b ∷ text) =
    elim (test b) as (λ v. test b ≡ v → begins_outside test (without_leading test (b ∷ text)) ≡ true) [
      | true ↦ λ inside. rw inside (without_leading_begins test text)
      | false ↦ λ outside. rw outside (ap not outside)
    ] refl

-- what trimming takes from the end is of the class
pub trailing_of : (test : ℕ → Bool) (text : List ℕ)
    → (trailing : List ℕ) × (list_all test trailing ≡ true) × (text ≡ without_trailing test text ++ trailing)
trailing_of test text =
    let leading = leading_of test (reverse text) in (
      reverse leading.0,
      list_all-reverse test leading.0 leading.1,
      sym (reverse-reverse text) ∙ ap reverse leading.2 ∙ reverse-append leading.0 (without_leading test (reverse text)),
    )

-- a text with no byte of the class loses none
pub without_trailing-none : (test : ℕ → Bool) (text : List ℕ) → list_all (λ b. not (test b)) text ≡ true
    → without_trailing test text ≡ text
without_trailing-none test [] none = refl
without_trailing-none test (b ∷ text) none =
    without_trailing-outside test (b ∷ text) (omega arith)
    (false_from_not (test (get_or (b ∷ text) (length (b ∷ text) - 1) 0))
    (list_all_at (λ b. not (test b)) (b ∷ text) (length (b ∷ text) - 1) 0 (omega arith) none))
