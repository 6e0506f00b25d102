use Rattle.std.proofs.Common.{sym, arith}
use Rattle.orb_bytes.proofs.MaskedLemmas.{begins_masked-short, begins_masked-bare, begins_masked-differs, from_places}
use Rattle.orb_bytes.proofs.rows.begins_masked.Goals as goal
use Rattle.orb_bytes.proofs.rows.begins_masked.Goals.{then-text-bytes-via-then-text-bytes, then-text-bytes-via-else-text-bytes+then-mask-bytes}

pub returns-then-text-bytes : goal.returns-then-text-bytes
returns-then-text-bytes c =
    elim c.then-text-bytes.branch [
      | then-text-bytes-via-then-text-bytes w ↦
          sym (begins_masked-short c.args.bytes.now c.args.mask.now c.args.text.now w.if-text-bytes.true)
      | then-text-bytes-via-else-text-bytes+then-mask-bytes w ↦
          sym (begins_masked-bare c.args.bytes.now c.args.mask.now c.args.text.now w.if-mask-bytes.true)
    ]

pub returns-then-text-place : goal.returns-then-text-place
returns-then-text-place c =
    sym (begins_masked-differs c.args.bytes.now c.args.mask.now c.args.text.now c.loop-place.place
    c.loop-place-test.true c.if-text-place.true)

pub returns : goal.returns
returns c =
    sym (from_places c.args.bytes.now c.args.mask.now c.args.text.now (omega arith)
    (record { long = omega arith; each = λ k below. c.loop-place.invariant k (omega (arith, c.loop-place-test.false)) }))
