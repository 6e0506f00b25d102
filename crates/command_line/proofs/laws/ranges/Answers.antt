use Rattle.command_line.proofs.ValueLemmas.{in_ranges}
use Rattle.command_line.proofs.laws.ranges.Goals as goal

pub returns : goal.returns
returns c = in_ranges
