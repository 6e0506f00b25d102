use Rattle.orb_engine.proofs.AnswerLaws.{output-longer, output-ends, exchanges-longer, rules-longer}
use Rattle.orb_engine.proofs.laws.output_grows.Goals as goal

pub returns : goal.returns
returns c = record { longer = output-longer; ends = output-ends; exchanges = exchanges-longer; rules = rules-longer }
