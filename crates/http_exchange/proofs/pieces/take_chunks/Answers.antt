use Rattle.std.proofs.Common.{List, ℕ, subst}
use Rattle.http_exchange.specs.Pieces.{Takes}
use Rattle.http_exchange.proofs.PieceLemmas.{reads}
use Rattle.http_exchange.proofs.pieces.take_chunks.Goals as goal

pub returns-clause-taken : goal.returns-clause-taken
returns-clause-taken c =
    let P : List ℕ → Type 0 = λ l. Takes c.in-Ok.passed.0 c.take_content-after.result.0 l c.take_content-after.result.1.now in
    reads c.args.start c.in-Ok.passed.0 c.take_content-after.result.0 c.args.piece.now c.take_content-after.result.1.now
    c.in-Ok.passed.1 c.in-Ok.ensures.passed (subst P c.split_at.ensures.back c.take_content-after.ensures.taken)
