use Rattle.std.proofs.Common.{◌≡◌, ℕ, List, ◌++◌, Option, None, subst, arith}
use Rattle.orb_engine.specs.declared.settings.Settings.{Settings}
use Rattle.orb_engine.specs.declared.engine.Engine.{Engine}
use Rattle.orb_engine.specs.declared.outcome.EngineOutcome.{EngineOutcome}
use Rattle.orb_engine.specs.Runs.{CanFeed, FeedAnswers}
use Rattle.orb_engine.proofs.tests.feed_in_pieces.Goals as goal

goes_on : (r : Option EngineOutcome) (e : Engine) (s : Settings) (m given : List ℕ) → r ≡ None → FeedAnswers r e s m given → CanFeed e
goes_on r e s m given is answers =
    let go = subst (λ (o : Option EngineOutcome). FeedAnswers o e s m given) is answers in
    record { s = s; m = m; given = given; reads = go.1 }

pub pieces-preserved : goal.pieces-preserved
pieces-preserved c =
    let can = c.pieces.invariant.can in
    let fed = c.feed.ensures.goes.tells can.s can.m can.given can.reads in
    record {
      can = goes_on c.feed.result c.feed.new.self can.s _ (can.given ++ fed.more) c.in_default.is fed.holds;
      few = omega (arith, c.pieces.invariant.few, c.feed.ensures.taken c.in_default.is);
    }
