use Rattle.std.proofs.Common.{◌++◌, sym, ◌∙◌, refl}
use Rattle.orb_io.proofs.GivesLemmas.{Gives-none, Delivers-as}
use Rattle.body_filter.specs.Responses.{output_so_far}
use Rattle.orb_engine.specs.Outputs.{written_so_far}
use Rattle.orb_engine.proofs.WorkLemmas.{for-filter, for-explain, reads-filter, reads-explain, so_far-filter, so_far-explain}
use Rattle.orb_engine.proofs.worker.Worker.feed.Goals as goal

pub returns-in-Filters-clause-calls : goal.returns-in-Filters-clause-calls
returns-in-Filters-clause-calls g c = record {
  tells = λ s x m works.
      let it = for-filter c.args.self.now _ s c.in-Filters.is works.is_for in
      let longer = m ++ c.args.body.now in
      Delivers-as _ _ c.feed_by.result (output_so_far x m) (written_so_far s.job x m) (output_so_far x longer) (written_so_far s.job x longer) _ _
      (so_far-filter s.job x m it.0) (so_far-filter s.job x longer it.0)
      (λ _ reads. record { is_for = (it.0, c.feed_by.ensures.limit ∙ it.1); reads = reads })
      (c.feed_by.ensures.calls.tells x m (reads-filter c.args.self.now _ x m c.in-Filters.is works.reads));
  cause = c.feed_by.ensures.calls.cause;
  keeps = c.feed_by.ensures.calls.keeps;
}

pub returns-in-Explains-clause-calls : goal.returns-in-Explains-clause-calls
returns-in-Explains-clause-calls g c = record {
  tells = λ s x m works.
      let it = for-explain c.args.self.now _ s c.in-Explains.is works.is_for in
      let reads = reads-explain c.args.self.now _ x m c.in-Explains.is works.reads in
      Gives-none _ (written_so_far s.job x m) _ (g.met.O.Sink.told_agrees c.args.sink.now) (
        so_far-explain s.job x m it ∙ sym (so_far-explain s.job x (m ++ c.args.body.now) it),
        record { is_for = it; reads = c.feed-progress.ensures.reads x.judged m reads },
      );
  cause = refl;
  keeps = g.met.O.Sink.kept_reflexive c.args.sink.now;
}
