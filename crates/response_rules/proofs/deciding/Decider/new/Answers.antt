use Rattle.response_rules.proofs.deciding.Decider.new.Goals as goal

pub returns-clause-reads : goal.returns-clause-reads
returns-clause-reads c = λ essence states. c.of.ensures _ (c.read.ensures.facts essence states)
