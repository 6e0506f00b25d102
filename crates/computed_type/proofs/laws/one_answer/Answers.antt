use Rattle.computed_type.proofs.AnswerLemmas.{settled, read_fault, write_fault}
use Rattle.computed_type.proofs.laws.one_answer.Goals as goal

pub returns : goal.returns
returns c = record { settled = settled; read_fault = read_fault; write_fault = write_fault }
