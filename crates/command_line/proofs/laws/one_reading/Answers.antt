use Rattle.command_line.proofs.TakenLemmas.{one_asked}
use Rattle.command_line.proofs.laws.one_reading.Goals as goal

pub returns : goal.returns
returns c = one_asked
