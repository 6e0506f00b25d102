use Rattle.orb_bytes.proofs.WalkLemmas.{first_whole}
use Rattle.orb_bytes.proofs.walks.Walk.whole.Goals as goal

pub returns : goal.returns
returns c = λ rows text h. first_whole c.args.self.now rows text h c.first.result c.first.ensures
