use Rattle.std.proofs.Common.{◌≡◌, ◌<◌, ℕ, slice_index, bit_and}
use Rattle.orb_bytes.proofs.rows.begins_masked.Given as goal

abbrev pub invariant-loop-place : goal.invariant-loop-place
invariant-loop-place l =
    (k : ℕ) → k < l.place → bit_and (slice_index l.text k) (slice_index l.mask k) ≡ slice_index l.bytes k
