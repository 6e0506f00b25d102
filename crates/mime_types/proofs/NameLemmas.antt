-- Names of pairs, as filters leave them.
use Rattle.std.proofs.Common.{◌≡◌, ℕ, Bool, true, false, not, ◌&&◌, List, [], ◌∷◌, filter, bytes_eq, refl, sym, ap, ◌∙◌, if◌then◌else◌}
use Rattle.std.specs.List.{list_all, list_any}
use Rattle.std.proofs.lemmas.Bool.{and_parts, and_from, and_left, and_right}
use Rattle.std.proofs.lemmas.Slice.Eq.{bytes_eq-Decides}
use Rattle.std.specs.Cmp.{both_ways}
use Rattle.mime_types.specs.Records.{has_name}
use Rattle.mime_types.proofs.BoolLemmas.{or_parts}

-- whether the pair's name is new to these
abbrev pub is_new : List (List ℕ × List ℕ) → List ℕ × List ℕ → Bool
is_new kept pair = not (has_name pair.0 kept)

-- whether the other pair has another name
abbrev pub is_other : List ℕ × List ℕ → List ℕ × List ℕ → Bool
is_other pair other = not (bytes_eq other.0 pair.0)

pub same_text : (a b : List ℕ) → bytes_eq a b ≡ true → a ≡ b
same_text a b = (bytes_eq-Decides a b).0

pub bytes_eq-sym : (a b : List ℕ) → bytes_eq a b ≡ bytes_eq b a
bytes_eq-sym a b =
    both_ways (bytes_eq a b) (bytes_eq b a)
    (λ same. (bytes_eq-Decides b a).1 (sym (same_text a b same)))
    (λ same. (bytes_eq-Decides a b).1 (sym (same_text b a same)))

-- a filter after a weaker one
pub filter_within : {X : Type 0} (p q : X → Bool) (xs : List X) → ((x : X) → p x ≡ true → q x ≡ true)
    → filter p (filter q xs) ≡ filter p xs
filter_within p q [] each = refl
filter_within {X} p q (x ∷ xs) each =
    elim (q x) as (λ v. q x ≡ v → filter p (filter q (x ∷ xs)) ≡ filter p (x ∷ xs)) [
      | true ↦ λ passes. rw passes (ap (λ rest. if p x then x ∷ rest else rest) (filter_within p q xs each))
      | false ↦ λ fails. elim (p x) as (λ v. p x ≡ v → filter p (filter q (x ∷ xs)) ≡ filter p (x ∷ xs)) [
        | true ↦ λ inner. absurd (let lie : false ≡ true = sym fails ∙ each x inner in cc)
        | false ↦ λ inner. rw (fails, inner) (filter_within p q xs each)
      ] refl
    ] refl

-- two filters are one
pub filter_both : {X : Type 0} (p q r : X → Bool) (xs : List X) → ((x : X) → r x ≡ (p x && q x))
    → filter p (filter q xs) ≡ filter r xs
filter_both p q r [] each = refl
filter_both {X} p q r (x ∷ xs) each =
    elim (q x) as (λ v. q x ≡ v → filter p (filter q (x ∷ xs)) ≡ filter r (x ∷ xs)) [
      | true ↦ λ passes. elim (p x) as (λ v. p x ≡ v → filter p (filter q (x ∷ xs)) ≡ filter r (x ∷ xs)) [
        | true ↦ λ inner. let both : r x ≡ true = each x ∙ and_from (p x) (q x) inner passes in
            rw (passes, inner, both) (ap (λ rest. x ∷ rest) (filter_both p q r xs each))
        | false ↦ λ inner. let none : r x ≡ false = each x ∙ and_left (p x) (q x) inner in
            rw (passes, inner, none) (filter_both p q r xs each)
      ] refl
      | false ↦ λ fails. let none : r x ≡ false = each x ∙ and_right (p x) (q x) fails in
          rw (fails, none) (filter_both p q r xs each)
    ] refl

-- what passes the test of all passes after a filter
pub list_all-filter : {X : Type 0} (p q : X → Bool) (xs : List X) → list_all p xs ≡ true → list_all p (filter q xs) ≡ true
list_all-filter p q [] are = refl
list_all-filter {X} p q (x ∷ xs) are =
    let parts = and_parts (p x) (list_all p xs) are in
    elim (q x) as (λ v. q x ≡ v → list_all p (filter q (x ∷ xs)) ≡ true) [
      | true ↦ λ passes. rw passes (and_from (p x) (list_all p (filter q xs)) parts.0 (list_all-filter p q xs parts.1))
      | false ↦ λ fails. rw fails (list_all-filter p q xs parts.1)
    ] refl

-- what a filter keeps passes
pub list_all-filter_same : {X : Type 0} (q : X → Bool) (xs : List X) → list_all q (filter q xs) ≡ true
list_all-filter_same q [] = refl
list_all-filter_same {X} q (x ∷ xs) =
    elim (q x) as (λ v. q x ≡ v → list_all q (filter q (x ∷ xs)) ≡ true) [
      | true ↦ λ passes. rw passes (and_from (q x) (list_all q (filter q xs)) passes (list_all-filter_same q xs))
      | false ↦ λ fails. rw fails (list_all-filter_same q xs)
    ] refl

-- a filter that all pass keeps all
pub filter_all : {X : Type 0} (q : X → Bool) (xs : List X) → list_all q xs ≡ true → filter q xs ≡ xs
filter_all q [] are = refl
filter_all q (x ∷ xs) are =
    let parts = and_parts (q x) (list_all q xs) are in
    let passes : q x ≡ true = parts.0 in
    rw passes (ap (λ rest. x ∷ rest) (filter_all q xs parts.1))

-- a name that is new stays new after a filter
pub list_any-filter : {X : Type 0} (p q : X → Bool) (xs : List X) → list_any p xs ≡ false → list_any p (filter q xs) ≡ false
list_any-filter p q [] none = refl
list_any-filter {X} p q (x ∷ xs) none =
    let parts = or_parts (p x) (list_any p xs) none in
    elim (q x) as (λ v. q x ≡ v → list_any p (filter q (x ∷ xs)) ≡ false) [
      | true ↦ λ passes. let fails : p x ≡ false = parts.0 in rw (passes, fails) (list_any-filter p q xs parts.1)
      | false ↦ λ fails. rw fails (list_any-filter p q xs parts.1)
    ] refl

-- after a filter nothing passes that passes its opposite
pub list_any-filter_not : {X : Type 0} (p : X → Bool) (xs : List X) → list_any p (filter (λ x. not (p x)) xs) ≡ false
list_any-filter_not p [] = refl
list_any-filter_not {X} p (x ∷ xs) =
    elim (p x) as (λ v. p x ≡ v → list_any p (filter (λ x. not (p x)) (x ∷ xs)) ≡ false) [
      | true ↦ λ passes. rw passes (list_any-filter_not p xs)
      | false ↦ λ fails. rw (fails, fails) (list_any-filter_not p xs)
    ] refl
