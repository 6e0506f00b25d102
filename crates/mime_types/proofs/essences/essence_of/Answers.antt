use Rattle.mime_types.proofs.EssenceLemmas.{essence_cut, essence_written}
use Rattle.mime_types.proofs.essences.essence_of.Goals as goal

pub returns-clause-written : goal.returns-clause-written
returns-clause-written c =
    essence_cut c.args.text.now c.in_ok-main.main.now c.in_ok-main.sub.now c.in_ok-main.field-0-2.now c.in_ok-main.ensures.found

pub returns-clause-found : goal.returns-clause-found
returns-clause-found c =
    essence_written c.args.text.now c.in_ok-main.main.now c.in_ok-main.sub.now (returns-clause-written c)
