use Rattle.std.proofs.Common.{◌≡◌, length}
use Rattle.corb_sniffers.specs.JsonReading.{rest_after_name}
use Rattle.corb_sniffers.proofs.json.after_name.Given as goal

abbrev pub invariant-units : goal.invariant-units
invariant-units l = rest_after_name l.rest ≡ rest_after_name l.text

abbrev pub decreases-units : goal.decreases-units
decreases-units l = length l.rest
