use Rattle.std.proofs.Common.{◌++◌, sym, ◌∙◌, refl}
use Rattle.orb_io.proofs.GivesLemmas.{Gives-none}
use Rattle.response_rules.proofs.HopelessLemmas.{hopeless-unsent}
use Rattle.body_filter.specs.Responses.{output_so_far}
use Rattle.body_filter.proofs.FilterLemmas.{so_far-unsent}
use Rattle.body_filter.proofs.PhaseLemmas.{reads-dropping, drops-of}
use Rattle.body_filter.proofs.filtering.Filter.feed_by.Goals as goal

pub returns-in-Dropping-clause-calls : goal.returns-in-Dropping-clause-calls
returns-in-Dropping-clause-calls g c = record {
  tells = λ x m r.
      let p = c.args.piece.now in
      let s = drops-of c.args.self.now x m c.in-Dropping.is r in
      let over = c.read_on-judgement.ensures.hopeless x.judged m r.decides s.over in
      Gives-none _ (output_so_far x m) _ (g.met.O.Sink.told_agrees c.args.sink.now) (
        so_far-unsent x m (hopeless-unsent x.judged m _ s.over) ∙ sym (so_far-unsent x (m ++ p) (hopeless-unsent x.judged (m ++ p) _ over)),
        (reads-dropping _ x (m ++ p) r.limit (c.read_on-judgement.ensures.reads x.judged m r.decides)
            c.in-Dropping.is (record { over = over })),
      );
  cause = refl;
  keeps = g.met.O.Sink.kept_reflexive c.args.sink.now;
}
