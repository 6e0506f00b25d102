use Rattle.std.proofs.Common.{◌≡◌, true, false, refl, sym, ap, ◌∙◌, arith}
use Rattle.media_state.proofs.TableLemmas.{view, is_kept, is_new, len_table, inserted_order, admitted_kept, admitted_new}
use Rattle.media_state.proofs.table.MediaTable.admit.Goals as goal

pub returns-in_default-clause-ok : goal.returns-in_default-clause-ok
returns-in_default-clause-ok c =
    admitted_kept _ c.self.invariant.2 _ c.self.view_is c.args.id _ (rw c.deref.ensures.value at c.in_default.ensures.found)

pub returns-in_default-clause-full : goal.returns-in_default-clause-full
returns-in_default-clause-full c =
    let kept = is_kept _ c.self.invariant.2 _ c.self.view_is c.args.id _ (rw c.deref.ensures.value at c.in_default.ensures.found) in
    (λ lie. absurd (cc), λ full. let lie : true ≡ false = sym kept ∙ full.0 in absurd (cc))

pub returns-in_default-clause-bounded : goal.returns-in_default-clause-bounded
returns-in_default-clause-bounded c =
    omega (arith, len_table _ c.self.invariant.2 _ c.self.view_is 0 0, c.self.invariant.0)

pub returns-then-len-eq-MOST_IDS-clause-full : goal.returns-then-len-eq-MOST_IDS-clause-full
returns-then-len-eq-MOST_IDS-clause-full c =
    let new = is_new _ c.self.invariant.2 _ c.self.view_is c.args.id _ (rw c.deref.ensures.value at c.in-Err.ensures.gap) in
    let len = len_table _ c.self.invariant.2 _ c.self.view_is 0 0 in
    (λ _. (new, omega (arith, len, c.len.ensures, c.if-len-eq-MOST_IDS.true)), λ _. refl)

pub returns-then-len-eq-MOST_IDS-clause-bounded : goal.returns-then-len-eq-MOST_IDS-clause-bounded
returns-then-len-eq-MOST_IDS-clause-bounded c =
    omega (arith, len_table _ c.self.invariant.2 _ c.self.view_is 0 0, c.self.invariant.0)

pub invariant_of-self : goal.invariant_of-self
invariant_of-self c =
    let order = inserted_order _ c.self.invariant.2 _ c.self.view_is c.args.id _ _ (rw c.deref.ensures.value at c.in-Err.ensures.gap) in (
      omega (arith, c.in-Ok.ensures.len, c.self.invariant.0, c.len.ensures, c.if-len-eq-MOST_IDS.false),
      omega (arith, c.in-Ok.ensures.capacity, c.self.invariant.1),
      rw c.in-Ok.ensures.items order,
    )

pub returns-clause-ok : goal.returns-clause-ok
returns-clause-ok c =
    ap view c.in-Ok.ensures.items
    ∙ admitted_new _ c.self.invariant.2 _ c.self.view_is c.args.id _ (rw c.deref.ensures.value at c.in-Err.ensures.gap)

pub returns-clause-full : goal.returns-clause-full
returns-clause-full c =
    let len = len_table _ c.self.invariant.2 _ c.self.view_is 0 0 in
    (λ lie. absurd (cc), λ full. absurd (c.if-len-eq-MOST_IDS.false (omega (arith, len, c.len.ensures, full.1))))

pub returns-clause-bounded : goal.returns-clause-bounded
returns-clause-bounded c =
    let order = (invariant_of-self c).2 in
    omega (arith, len_table c.insert.new.self.items order (view c.insert.new.self.items) refl 0 0, (invariant_of-self c).0)
