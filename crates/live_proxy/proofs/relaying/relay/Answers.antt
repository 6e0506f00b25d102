use Rattle.std.proofs.Common.{ℕ, List, [], ◌++◌, drop, take, length, true, false, refl, ap, ◌∙◌, arith, length-drop, length-take}
use Rattle.std.proofs.lemmas.Bool.{false≢true}
use Rattle.orb_io.proofs.GivesLemmas.{Gives-none, Gives-weaker, Gives-then}
use Rattle.live_proxy.proofs.RelayLemmas.{no-head, cut-head, long-head}
use Rattle.live_proxy.proofs.PullLemmas.{few-open, few-come, pulled-first, pulled-none, pulled-after}
use Rattle.live_proxy.proofs.relaying.relay.Goals as goal

pub returns-in-Err-Long-clause-relays : goal.returns-in-Err-Long-clause-relays
returns-in-Err-Long-clause-relays g c =
    let lost = rw c.in-Err-Long.field-0-is at c.in-Err-Long.ensures.gathers in
    Gives-none _ [] _ (g.met.K.Sink.told_agrees c.args.client.now)
    (pulled-first _ _ _ lost.read [] false _ lost.lost (λ never. absurd (false≢true never))
    (omega (arith, lost.holds.1, c.gather.ensures.size)) (long-head c.args.context lost.read lost.holds.0))

pub returns-in-Err-Ended-clause-relays : goal.returns-in-Err-Ended-clause-relays
returns-in-Err-Ended-clause-relays g c =
    let lost = rw c.in-Err-Ended.field-0-is at c.in-Err-Ended.ensures.gathers in
    Gives-none _ [] _ (g.met.K.Sink.told_agrees c.args.client.now)
    (pulled-first _ _ _ lost.read [] true _ lost.lost (λ _. lost.holds.1)
    (few-open lost.read lost.holds.0) (cut-head c.args.context lost.read lost.holds.0))

pub returns-in-Err-Failed-clause-relays : goal.returns-in-Err-Failed-clause-relays
returns-in-Err-Failed-clause-relays g c =
    let lost = rw c.in-Err-Failed.field-0-is at c.in-Err-Failed.ensures.gathers in
    Gives-none _ [] _ (g.met.K.Sink.told_agrees c.args.client.now)
    (pulled-first _ _ _ lost.read [] false _ lost.lost (λ never. absurd (false≢true never))
    (few-open lost.read lost.holds) (refl, no-head c.args.context lost.read lost.holds))

pub returns-in-Err-clause-relays : goal.returns-in-Err-clause-relays
returns-in-Err-clause-relays g c =
    let lost = c.in-Ok.ensures.gathers in
    let came = c.in-Ok.came in
    let rest = drop came.used (take came.count c.gather.new.room) in
    Gives-weaker _ _ [] _ _ (λ more stops.
    pulled-after _ _ _ _ (c.gather.new.head ++ rest) _ _ (rw (← lost.holds.is) lost.lost)
    (pulled-none _ _ (c.gather.new.head ++ rest) _ _
    (few-come c.gather.new.head rest lost.holds.text (omega (arith, length-drop came.used (take came.count c.gather.new.room), length-take came.count c.gather.new.room, c.gather.ensures.size)))
    stops))
    (c.in-Err.ensures.acts.tells rest)

pub relay_body-requires-clause-can : goal.relay_body-requires-clause-can
relay_body-requires-clause-can g c =
    let rest = drop c.in-Ok.came.used (take c.in-Ok.came.count c.gather.new.room) in
    let begins = c.in-Ok-begin.ensures.acts.tells rest in (
      c.args.context,
      _,
      _,
      begins.holds,
      c.count_of-taken.ensures.is c.gather.new.room c.in-Ok.ensures.gathers.holds.count
          ∙ ap (λ (t : List ℕ). length (t ++ rest)) (c.as_slice.ensures.value ∙ c.in-Ok-begin.ensures.same),
    )

pub returns-clause-relays : goal.returns-clause-relays
returns-clause-relays g c =
    let lost = c.in-Ok.ensures.gathers in
    let rest = drop c.in-Ok.came.used (take c.in-Ok.came.count c.gather.new.room) in
    Gives-then _ _ _ [] _ _ (c.in-Ok-begin.ensures.acts.tells rest) (λ more begun.
    Gives-weaker _ _ more _ _ (λ further p.
    pulled-after _ _ _ _ (c.gather.new.head ++ rest) _ _ (rw (← lost.holds.is) lost.lost) p)
    (c.relay_body.ensures.relays c.args.context (c.gather.new.head ++ rest) more begun
    (c.count_of-taken.ensures.is c.gather.new.room lost.holds.count
    ∙ ap (λ (t : List ℕ). length (t ++ rest)) (c.as_slice.ensures.value ∙ c.in-Ok-begin.ensures.same))))
