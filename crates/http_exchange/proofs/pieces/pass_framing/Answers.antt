use Rattle.std.proofs.Common.{sym, ◌∙◌}
use Rattle.http_exchange.proofs.PieceLemmas.{fails}
use Rattle.http_exchange.proofs.RunLemmas.{run-more, gives-more}
use Rattle.http_exchange.proofs.pieces.pass_framing.Goals as goal

pub returns-then-is_dead-clause-refused : goal.returns-then-is_dead-clause-refused
returns-then-is_dead-clause-refused c =
    fails c.args.start c.loop-at.place c.next-place.result c.args.piece.now c.loop-at.at c.loop-at-test.true
    c.loop-at.invariant.leads c.loop-at.invariant.frames c.loop-at.invariant.alive
    (sym c.is_content.ensures ∙ c.if-is_content.false) (sym c.is_end.ensures ∙ c.if-is_end.false)
    c.next-place.ensures.value (sym c.is_dead.ensures ∙ c.if-is_dead.true)

pub loop-at-preserved : goal.loop-at-preserved
loop-at-preserved c = record {
  leads = run-more c.args.start c.loop-at.place c.args.piece.now c.loop-at.at c.loop-at-test.true c.loop-at.invariant.leads
      ∙ sym c.next-place.ensures.value;
  frames = gives-more c.args.start c.loop-at.place c.args.piece.now c.loop-at.at c.loop-at-test.true c.loop-at.invariant.leads
      (sym c.is_content.ensures ∙ c.if-is_content.false) ∙ c.loop-at.invariant.frames;
  alive = λ alive. sym c.is_dead.ensures ∙ c.if-is_dead.false;
  sound = c.next-place.ensures.sound;
}
