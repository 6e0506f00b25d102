use Rattle.std.proofs.Common.{◌≡◌, ◌<◌, ◌≤◌, ◌-◌, ◌%◌, ℕ, false}
use Rattle.signatures.specs.Mp4.{is_compatible_mp4}
use Rattle.signatures.proofs.mp4.has_compatible_mp4.Given as goal

abbrev pub invariant-brands : goal.invariant-brands
invariant-brands l = record {
  from : 16 ≤ l.offset;
  aligned : l.offset % 4 ≡ 0;
  none : (k : ℕ) → k < l.offset → is_compatible_mp4 l.window k ≡ false;
}

abbrev pub decreases-brands : goal.decreases-brands
decreases-brands l = l.size - l.offset
