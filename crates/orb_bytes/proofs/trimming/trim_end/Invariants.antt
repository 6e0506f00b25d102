use Rattle.std.proofs.Common.{◌≡◌, length}
use Rattle.orb_bytes.specs.Bytes.{is_one_of}
use Rattle.orb_bytes.specs.Trim.{without_trailing}
use Rattle.orb_bytes.proofs.trimming.trim_end.Given as goal

abbrev pub invariant-trailing : goal.invariant-trailing
invariant-trailing l =
    without_trailing (is_one_of l.class) l.rest ≡ without_trailing (is_one_of l.class) l.text

abbrev pub decreases-trailing : goal.decreases-trailing
decreases-trailing l = length l.rest
