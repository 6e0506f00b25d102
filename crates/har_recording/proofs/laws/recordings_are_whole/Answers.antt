use Rattle.har_recording.proofs.RecordingLemmas.{all_sent}
use Rattle.har_recording.proofs.laws.recordings_are_whole.Goals as goal

pub returns : goal.returns
returns c = all_sent
