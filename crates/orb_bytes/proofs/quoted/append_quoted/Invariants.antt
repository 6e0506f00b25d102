use Rattle.std.proofs.Common.{◌≡◌, ◌++◌, take}
use Rattle.std.specs.List.{flat_map}
use Rattle.orb_bytes.specs.Quoted.{quoted_byte}
use Rattle.orb_bytes.proofs.quoted.append_quoted.Given as goal

abbrev pub invariant-loop-b : goal.invariant-loop-b
invariant-loop-b l = l.text.items ≡ l.initial.text.items ++ flat_map quoted_byte (take l.b-index l.value)
