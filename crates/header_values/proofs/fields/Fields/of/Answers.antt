use Rattle.std.proofs.Common.{◌-◌, length, get_or, refl, arith}
use Rattle.header_values.specs.declared.fields.FieldSpan.{FieldSpan}
use Rattle.header_values.specs.Fields.{AreFields}
use Rattle.header_values.proofs.FieldLemmas.{OfHeadTo-more, OfHeadTo-all, AreFields-room}
use Rattle.header_values.proofs.fields.Fields.of.Goals as goal

pub loop-span-init : goal.loop-span-init
loop-span-init c = (omega arith, record { within = λ k d below. absurd (omega arith); sum = omega arith })

pub loop-span-preserved : goal.loop-span-preserved
loop-span-preserved c =
    let left = c.in_ok-left.ensures.left in (
      omega (arith, c.loop-span.invariant.0),
      OfHeadTo-more _ _ _ (length c.args.head.now - c.loop-span.left) (length c.args.head.now - c.in_ok-left.left) _ _ c.loop-span-test.true refl
          (c.is_within.ensures.0 c.if-not-is_within.false) (omega (arith, c.loop-span.invariant.0)) c.loop-span.invariant.1,
    )

pub returns-clause-good : goal.returns-clause-good
returns-clause-good c =
    OfHeadTo-all _ _ _ (length c.args.head.now - c.loop-span.left) c.loop-span-test.false (omega arith) c.loop-span.invariant.1

pub returns-in_err-left-clause-none : goal.returns-in_err-left-clause-none
returns-in_err-left-clause-none c = rw c.from_residual.ensures none where
  none : AreFields c.args.head.now c.args.spans.now → ⊥
  none all =
      let d : FieldSpan = record { name_start = 0; name_end = 0; value_start = 0; value_end = 0 } in
      let room = AreFields-room c.args.head.now c.args.spans.now c.loop-span.span-index (length c.args.head.now - c.loop-span.left)
      (get_or c.args.spans.now c.loop-span.span-index d) d c.loop-span-test.true refl c.loop-span.invariant.1 all in
      let short = c.in_err-left.ensures.none in
      absurd (omega (arith, c.loop-span.invariant.0))
