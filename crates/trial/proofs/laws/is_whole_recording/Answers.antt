use Rattle.trial.proofs.WholeLemmas.{is_recorded}
use Rattle.trial.proofs.laws.is_whole_recording.Goals as goal

pub returns : goal.returns
returns c = is_recorded
