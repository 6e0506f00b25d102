use Rattle.std.proofs.Common.{[], refl, sym, ap, ◌∙◌, inr}
use Rattle.media_state.specs.Table.{stored}
use Rattle.orb_io.proofs.GivesLemmas.{Gives-none}
use Rattle.live_proxy.proofs.AnswerLemmas.{unanswered, gives-done, gives-stop, sent, answer-causes, context-is}
use Rattle.live_proxy.specs.declared.outcomes.ProxyOutcome.TheVariants as outcome
use Rattle.live_proxy.proofs.proxy.Proxy.answer.Goals as goal

pub returns-in-Err-clause-answers : goal.returns-in-Err-clause-answers
returns-in-Err-clause-answers g c r h =
    Gives-none _ [] _ (g.met.K.Sink.told_agrees c.args.client.now)
    (unanswered _ _ _ _ (g.met.U.Duplex.push_leaves_left _ _ c.in-Err.ensures.keeps))

pub returns-in-Err-clause-causes : goal.returns-in-Err-clause-causes
returns-in-Err-clause-causes g c = (
  inr (g.met.U.Duplex.push_leaves_faults _ _ c.in-Err.ensures.keeps, c.in-Err.ensures.cause),
  refl,
)

pub returns-in-Err-clause-keeps : goal.returns-in-Err-clause-keeps
returns-in-Err-clause-keeps g c = g.met.K.Sink.kept_reflexive c.args.client.now

pub returns-in-Ok-relay-clause-sends : goal.returns-in-Ok-relay-clause-sends
returns-in-Ok-relay-clause-sends g c r h =
    sent outcome.Done _ _ _ _ _ (c.as_slice.ensures.value ∙ h.text)
    (g.met.U.Duplex.pull_leaves_told _ _ c.in-Ok-relay.ensures.upstream) c.in-Ok.ensures.bytes

pub returns-in-Ok-relay-clause-answers : goal.returns-in-Ok-relay-clause-answers
returns-in-Ok-relay-clause-answers g c r h =
    gives-done _ _ _ _ _ _ c.in-Ok-relay.state _ _ _
    (context-is c.args.self.now r c.in-Some.asked _ h (sym c.take.ensures.value ∙ c.in-Some.is) c.limit.ensures)
    (g.met.U.Duplex.push_leaves_left _ _ c.in-Ok.ensures.keeps)
    (c.leave.ensures ∙ ap (λ i. stored c.args.self.now.media i c.in-Ok-relay.state) c.id_of.ensures)
    c.in-Ok-relay.ensures.relays

pub returns-clause-sends : goal.returns-clause-sends
returns-clause-sends g c r h =
    sent c.in-Err-relay.outcome _ _ _ _ _ (c.as_slice.ensures.value ∙ h.text)
    (g.met.U.Duplex.pull_leaves_told _ _ c.in-Err-relay.ensures.upstream) c.in-Ok.ensures.bytes

pub returns-clause-answers : goal.returns-clause-answers
returns-clause-answers g c r h =
    gives-stop c.in-Err-relay.outcome _ _ _ _ _ _ _ _
    (context-is c.args.self.now r c.in-Some.asked _ h (sym c.take.ensures.value ∙ c.in-Some.is) c.limit.ensures)
    (g.met.U.Duplex.push_leaves_left _ _ c.in-Ok.ensures.keeps)
    c.in-Err-relay.ensures.relays

pub returns-clause-causes : goal.returns-clause-causes
returns-clause-causes g c =
    answer-causes c.in-Err-relay.outcome _ _ _ _ _ _ _
    (g.met.U.Duplex.push_leaves_faults _ _ c.in-Ok.ensures.keeps)
    (g.met.U.Duplex.pull_leaves_faults _ _ c.in-Err-relay.ensures.upstream ∙ c.in-Ok.ensures.cause)
    c.in-Err-relay.ensures.causes
