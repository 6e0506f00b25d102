use Rattle.std.proofs.Common.{◌≡◌, true, List, ◌++◌, length, map}
use Rattle.std.specs.List.{list_all, flat_map}
use Rattle.orb_bytes.specs.Quoted.{QuotedUnit, unit_text, is_unit, unit_value}
use Rattle.orb_bytes.proofs.quoted.read_quoted.Given as goal

-- the units that are read, and their bytes
abbrev pub invariant-units : goal.invariant-units
invariant-units l =
    (done : List QuotedUnit) × (list_all is_unit done ≡ true)
    × (l.text ≡ flat_map unit_text done ++ l.rest) × (l.value.items ≡ map unit_value done)

abbrev pub decreases-units : goal.decreases-units
decreases-units l = length l.rest
