use Rattle.orb_bytes.specs.Rows.{is_open}
use Rattle.orb_bytes.proofs.WalkLemmas.{some_row}
use Rattle.orb_bytes.proofs.walks.Walk.is_open.Goals as goal

pub returns : goal.returns
returns c = λ rows text h. some_row (is_open text) rows c.args.self.now.open_rows c.is_empty.result c.is_empty.ensures h.open_rows
