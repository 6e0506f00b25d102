use Rattle.std.proofs.Common.{inl, inr, length, refl, sym, ap, ◌∙◌}
use Rattle.body_filter.specs.Reads.{held_in}
use Rattle.http_exchange.proofs.FramingLaws.{kept-length}
use Rattle.body_filter.proofs.GrowthLemmas.{feeds-short, ends-short}
use Rattle.body_filter.proofs.FilterLemmas.{held-holding, held-passing, held-dropping}
use Rattle.body_filter.proofs.PhaseLemmas.{holds-of, passes-of, drops-of, idle-spent}
use Rattle.body_filter.proofs.filtering.Filter.held.Goals as goal

pub returns-in-Holding-clause-value : goal.returns-in-Holding-clause-value
unfolding held_in
returns-in-Holding-clause-value c = rw c.in-Holding.is (c.len.ensures ∙ c.args.self.now.held.ok.0)

pub returns-in-Holding-clause-exact : goal.returns-in-Holding-clause-exact
returns-in-Holding-clause-exact c = λ x m r.
    let s = holds-of c.args.self.now x m c.in-Holding.is r in
    c.len.ensures ∙ (c.args.self.now.held.ok.0 ∙ (ap length s.held ∙ sym (held-holding x m _ s.unsent s.hopeful)))

pub returns-in-Passing-clause-value : goal.returns-in-Passing-clause-value
unfolding held_in
returns-in-Passing-clause-value c = rw c.in-Passing.is c.kept.ensures.value

pub returns-in-Passing-clause-exact : goal.returns-in-Passing-clause-exact
returns-in-Passing-clause-exact c = λ x m r.
    let s = passes-of c.args.self.now x m c.in-Passing.is r in
    c.kept.ensures.value ∙ (ap length s.rest ∙ (kept-length x.chunked m ∙ sym (held-passing x m _ s.sent)))

pub returns-in-Dropping-clause-value : goal.returns-in-Dropping-clause-value
unfolding held_in
returns-in-Dropping-clause-value c = elim c.in-Dropping.is [ inl is ↦ rw is refl | inr is ↦ rw is refl ]

pub returns-in-Dropping-clause-exact : goal.returns-in-Dropping-clause-exact
returns-in-Dropping-clause-exact c = λ x m r.
    elim c.in-Dropping.is [
      | inl is ↦ sym (held-dropping x m _ (drops-of c.args.self.now x m is r).over)
      | inr is ↦ absurd (idle-spent c.args.self.now is x m r)
    ]

pub returns-in-Holding-clause-feeds : goal.returns-in-Holding-clause-feeds
returns-in-Holding-clause-feeds c = λ x m p r. feeds-short c.args.self.now x m p r

pub returns-in-Holding-clause-ends : goal.returns-in-Holding-clause-ends
returns-in-Holding-clause-ends c = λ x m r. ends-short c.args.self.now x m r

pub returns-in-Passing-clause-feeds : goal.returns-in-Passing-clause-feeds
returns-in-Passing-clause-feeds c = λ x m p r. feeds-short c.args.self.now x m p r

pub returns-in-Passing-clause-ends : goal.returns-in-Passing-clause-ends
returns-in-Passing-clause-ends c = λ x m r. ends-short c.args.self.now x m r

pub returns-in-Dropping-clause-feeds : goal.returns-in-Dropping-clause-feeds
returns-in-Dropping-clause-feeds c = λ x m p r. feeds-short c.args.self.now x m p r

pub returns-in-Dropping-clause-ends : goal.returns-in-Dropping-clause-ends
returns-in-Dropping-clause-ends c = λ x m r. ends-short c.args.self.now x m r
