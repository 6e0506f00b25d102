use Rattle.std.proofs.Common.{refl, sym, ◌∙◌, arith}
use Rattle.header_values.proofs.JoinLemmas.{WrittenTo-none, WrittenTo-hit, WrittenTo-miss, WrittenTo-all, room_for}
use Rattle.header_values.proofs.fields.Fields.write_joined.Goals as goal
use Rattle.header_values.proofs.fields.Fields.write_joined.Goals.{then-eq_ignore_case, else-eq_ignore_case}

pub loop-span-init : goal.loop-span-init
loop-span-init c = record {
  so_far = WrittenTo-none _ _ _ _ c.clear.ensures.items;
  room = omega arith;
}

pub append_value-requires : goal.append_value-requires
append_value-requires c =
    room_for _ _ _ _ _ _ _ _ _ c.loop-span-test.true refl c.requires.fields.fit (omega arith) c.loop-span.invariant.so_far

pub loop-span-preserved : goal.loop-span-preserved
loop-span-preserved c =
    elim c.if-eq_ignore_case.branch [
      | then-eq_ignore_case w ↦ record {
        so_far = rw (w.found-is, w.text-is) (WrittenTo-hit _ _ _ _ _ _ _ _ _ c.loop-span-test.true refl (sym c.eq_ignore_case.ensures ∙ w.if-eq_ignore_case.true) w.append_value.ensures.items c.loop-span.invariant.so_far);
        room = rw w.text-is (omega arith);
      }
      | else-eq_ignore_case w ↦ record {
        so_far = rw (w.found-is, w.text-is) (WrittenTo-miss _ _ _ _ _ _ _ _ c.loop-span-test.true refl (sym c.eq_ignore_case.ensures ∙ w.if-eq_ignore_case.false) c.loop-span.invariant.so_far);
        room = rw w.text-is (omega arith);
      }
    ]

pub returns-clause-joined : goal.returns-clause-joined
returns-clause-joined c =
    WrittenTo-all _ _ _ _ _ _ c.loop-span-test.false c.loop-span.invariant.so_far
