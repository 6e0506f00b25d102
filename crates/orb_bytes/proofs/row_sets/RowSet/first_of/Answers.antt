use Rattle.std.proofs.Common.{◌≡◌, ◌<◌, ◌^◌, ◌*◌, ◌%◌, ◌-◌, arith}
use Rattle.std.proofs.Math.Pow.{pow_mono}
use Rattle.orb_bytes.proofs.RowSetLemmas.{bit_at_ones-lt}
use Rattle.orb_bytes.proofs.row_sets.RowSet.first_of.Goals as goal

pub returns : goal.returns
returns c =
    let few : 2 ^ c.args.count < 18446744073709551616 = omega (arith, pow_mono {j = 32} c.requires) in
    let same : 1 * 2 ^ c.args.count % 18446744073709551616 - 1 ≡ 2 ^ c.args.count - 1 = omega arith in
    λ i. rw same (bit_at_ones-lt c.args.count i)
