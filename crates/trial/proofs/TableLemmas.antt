-- A table of media states whose ids are all below 16 is never full.
use Rattle.std.proofs.Common.{◌≡◌, ℕ, zero, suc, ◌+◌, ◌<◌, ◌≤◌, Bool, true, false, cond, is_some, Option, Some, refl, sym, ap, ◌∙◌, arith}
use Rattle.std.specs.Ordering.{nat_cmp, eq_by_cmp}
use Rattle.std.specs.Cmp.{nat_cmp_total}
use Rattle.std.specs.FinMap as map
use Rattle.std.proofs.lemmas.Bool.Decides.{nat_tests}
use Rattle.media_state.specs.declared.states.MediaState.{MediaState}
use Rattle.media_state.specs.declared.states.MediaState.TheVariants.{Initial}
use Rattle.media_state.specs.Table.{States, admitted, keeps, HasNoRoom}

bit : Bool → ℕ
bit true = 1
bit false = 0

unbit : Bool → ℕ
unbit true = 0
unbit false = 1

-- how many ids below n the table has
pub ids_below : States → ℕ → ℕ
ids_below table zero = 0
ids_below table (suc n) = ids_below table n + bit (map.contains_key table n)

-- it has no other ids than those below 16
pub IsSmall : States → Type 0
IsSmall table = map.len table ≡ ids_below table 16

bit-le : (b : Bool) → bit b ≤ 1
unfolding bit
bit-le true = omega arith
bit-le false = omega arith

ids_below-le : (table : States) (n : ℕ) → ids_below table n ≤ n
unfolding ids_below bit
ids_below-le table zero = omega arith
ids_below-le table (suc n) = omega (arith, ids_below-le table n, bit-le (map.contains_key table n))

pub small_has_room : (table : States) (id : ℕ) → IsSmall table → HasNoRoom table id → ⊥
unfolding IsSmall
small_has_room table id small full = omega (arith, small, full.1, ids_below-le table 16)

none_below : (n : ℕ) → ids_below map.empty n ≡ 0
unfolding ids_below bit
none_below zero = refl
none_below (suc n) =
    let none : map.contains_key (map.empty {X = MediaState} {R = nat_cmp}) n ≡ false = ap is_some (map.get-empty nat_cmp n) in
    omega (arith, none_below n, ap bit none)

pub empty_is_small : IsSmall map.empty
unfolding IsSmall
empty_is_small = map.len-empty nat_cmp MediaState ∙ sym (none_below 16)

some_by : (b : Bool) (v : MediaState) (found : Option MediaState) → is_some (cond b (Some v) found) ≡ cond b true (is_some found)
some_by true v found = refl
some_by false v found = refl

contains-insert : (table : States) (k : ℕ) (v : MediaState) (q : ℕ)
    → map.contains_key (map.insert table k v) q ≡ cond (eq_by_cmp nat_cmp q k) true (map.contains_key table q)
contains-insert table k v q =
    ap is_some (map.get-insert nat_cmp_total table k v q) ∙ some_by (eq_by_cmp nat_cmp q k) v (map.get table q)

same_id : (k : ℕ) → eq_by_cmp nat_cmp k k ≡ true
same_id k = grind (arith, nat_tests)

other_id : (q k : ℕ) → (q ≡ k → ⊥) → eq_by_cmp nat_cmp q k ≡ false
other_id q k apart = grind (arith, nat_tests)

-- an id above them adds none
below-insert : (table : States) (k : ℕ) (v : MediaState) (n : ℕ) → n ≤ k → ids_below (map.insert table k v) n ≡ ids_below table n
unfolding ids_below bit
below-insert table k v zero low = refl
below-insert table k v (suc n) low =
    let same : map.contains_key (map.insert table k v) n ≡ map.contains_key table n =
    contains-insert table k v n ∙ ap (λ b. cond b true (map.contains_key table n)) (other_id n k (λ e. omega (arith, e, low))) in
    omega (arith, below-insert table k v n (omega arith), ap bit same)

-- and one among them is new, or was there
one_more : (b : Bool) → bit b + unbit b ≡ 1
unfolding bit unbit
one_more true = refl
one_more false = refl

here_insert : (table : States) (k : ℕ) (v : MediaState) (n : ℕ) → eq_by_cmp nat_cmp n k ≡ true
    → ids_below (map.insert table k v) (suc n) ≡ ids_below table (suc n) + unbit (map.contains_key table k)
unfolding ids_below bit
here_insert table k v n here =
    let at : n ≡ k = grind (arith, nat_tests, here) in
    let has : map.contains_key (map.insert table k v) n ≡ true =
    contains-insert table k v n ∙ ap (λ b. cond b true (map.contains_key table n)) here in
    let was : map.contains_key table n ≡ map.contains_key table k = ap (map.contains_key table) at in
    omega (
      arith,
      below-insert table k v n (omega (arith, at)),
      ap bit has,
      ap bit was,
      one_more (map.contains_key table k),
    )

elsewhere_insert : (table : States) (k : ℕ) (v : MediaState) (n : ℕ) → eq_by_cmp nat_cmp n k ≡ false
    → ids_below (map.insert table k v) n ≡ ids_below table n + unbit (map.contains_key table k)
    → ids_below (map.insert table k v) (suc n) ≡ ids_below table (suc n) + unbit (map.contains_key table k)
unfolding ids_below
elsewhere_insert table k v n elsewhere before =
    let same : map.contains_key (map.insert table k v) n ≡ map.contains_key table n =
    contains-insert table k v n ∙ ap (λ b. cond b true (map.contains_key table n)) elsewhere in
    omega (arith, before, ap bit same)

among-insert : (table : States) (k : ℕ) (v : MediaState) (n : ℕ) → k < n
    → ids_below (map.insert table k v) n ≡ ids_below table n + unbit (map.contains_key table k)
among-insert table k v zero high = absurd (omega (arith, high))
among-insert table k v (suc n) high = by_place (eq_by_cmp nat_cmp n k) refl (among-insert table k v n)
  where
    by_place : (b : Bool) → eq_by_cmp nat_cmp n k ≡ b
        → (k < n → ids_below (map.insert table k v) n ≡ ids_below table n + unbit (map.contains_key table k))
        → ids_below (map.insert table k v) (suc n) ≡ ids_below table (suc n) + unbit (map.contains_key table k)
    by_place true here before = here_insert table k v n here
    by_place false elsewhere before =
        let apart : (n ≡ k) → ⊥ = λ e. let yes : eq_by_cmp nat_cmp n k ≡ true = ap (λ q. eq_by_cmp nat_cmp q k) e ∙ same_id k in cc in
        elsewhere_insert table k v n elsewhere (before (omega (arith, high, apart)))

length_by : (b : Bool) (n : ℕ) → cond b n (n + 1) ≡ n + unbit b
unfolding unbit
length_by true n = omega arith
length_by false n = refl

insert_is_small : (table : States) (k : ℕ) (v : MediaState) → k < 16 → IsSmall table → IsSmall (map.insert table k v)
unfolding IsSmall
insert_is_small table k v low small =
    map.len-insert nat_cmp_total table k v
    ∙ length_by (map.contains_key table k) (map.len table)
    ∙ omega (arith, small, among-insert table k v 16 low)

admitted_is_small : (table : States) (id : ℕ) → id < 16 → IsSmall table → IsSmall (admitted table id)
admitted_is_small table id low small = by_key (map.contains_key table id)
  where
    by_key : (b : Bool) → IsSmall (cond b table (map.insert table id Initial))
    by_key true = small
    by_key false = insert_is_small table id Initial low small

-- a table keeps so
pub keeps_is_small : (table : States) (id : ℕ) (state : MediaState) → id < 16 → IsSmall table → IsSmall (keeps table (Some id) state)
keeps_is_small table id state low small = insert_is_small (admitted table id) id state low (admitted_is_small table id low small)
