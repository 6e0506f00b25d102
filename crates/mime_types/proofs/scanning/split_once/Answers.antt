use Rattle.std.proofs.Common.{arith}
use Rattle.memchr.specs.Find.{is_byte}
use Rattle.mime_types.proofs.SpanLemmas.{prefix_fails, all_fail}
use Rattle.mime_types.proofs.scanning.split_once.Goals as goal

pub returns-in_err-place-clause-none : goal.returns-in_err-place-clause-none
returns-in_err-place-clause-none c =
    rw c.from_residual.ensures (all_fail (is_byte c.args.stop) c.args.text.now c.in_err-place.ensures)

pub returns-clause-first : goal.returns-clause-first
returns-clause-first c =
    let found = c.in_ok-place.ensures in
    prefix_fails (is_byte c.args.stop) c.in_ok-place.place c.args.text.now (omega (arith, found.0.high))
    (λ k below. found.0.before k (omega arith) below)
