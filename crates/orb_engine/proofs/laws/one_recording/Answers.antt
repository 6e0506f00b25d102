use Rattle.orb_engine.proofs.AnswerLaws.{one-exchanges, one-stop, one-output, one-rules}
use Rattle.orb_engine.proofs.laws.one_recording.Goals as goal

pub returns : goal.returns
returns c = record { exchanges = one-exchanges; stop = one-stop; output = one-output; rules = one-rules }
