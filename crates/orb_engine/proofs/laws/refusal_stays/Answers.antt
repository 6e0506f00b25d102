use Rattle.orb_engine.proofs.AnswerLaws.{opens-stop, refusal-stands, refusal-alone}
use Rattle.orb_engine.proofs.laws.refusal_stays.Goals as goal

pub returns : goal.returns
returns c = record { opens = opens-stop; stands = refusal-stands; alone = refusal-alone }
