use Rattle.std.proofs.Common.{[], refl, sym, ◌∙◌}
use Rattle.orb_io.proofs.GivesLemmas.{Gives-none, Delivers-as}
use Rattle.body_filter.specs.Responses.{response_of, output_so_far}
use Rattle.orb_engine.specs.Outputs.{written_so_far}
use Rattle.orb_engine.proofs.WorkLemmas.{for-filter, for-explain, so_far-filter, so_far-explain}
use Rattle.orb_engine.proofs.worker.Worker.begin.Goals as goal

pub returns-in-Filters-clause-calls : goal.returns-in-Filters-clause-calls
returns-in-Filters-clause-calls g c = record {
  tells = λ s h is_for facts.
      let it = for-filter c.args.self.now _ s c.in-Filters.is is_for in
      let x = response_of h c.args.head.now c.args.chunked in
      Delivers-as _ _ c.begin_with.result [] [] (output_so_far x []) (written_so_far s.job x []) _ _ refl (so_far-filter s.job x [] it.0)
      (λ _ reads. record { is_for = (it.0, c.begin_with.ensures.limit ∙ it.1); reads = reads })
      (c.begin_with.ensures.calls.tells h facts.of_head);
  cause = c.begin_with.ensures.calls.cause;
  keeps = c.begin_with.ensures.calls.keeps;
}

pub returns-in-Explains-clause-calls : goal.returns-in-Explains-clause-calls
returns-in-Explains-clause-calls g c = record {
  tells = λ s h is_for facts.
      let it = for-explain c.args.self.now _ s c.in-Explains.is is_for in
      Gives-none _ [] _ (g.met.O.Sink.told_agrees c.args.sink.now)
      (sym (so_far-explain s.job _ [] it), record { is_for = it; reads = c.begin.ensures h facts.of_head });
  cause = refl;
  keeps = g.met.O.Sink.kept_reflexive c.args.sink.now;
}
