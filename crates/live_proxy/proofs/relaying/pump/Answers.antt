use Rattle.std.proofs.Common.{Result, Err, [], ◌++◌, take, false, true, refl, sym, ◌∙◌, arith, append_assoc, length-append, length-take}
use Rattle.std.proofs.lemmas.Bool.{false≢true}
use Rattle.std.proofs.lemmas.List.{append-nil}
use Rattle.orb_io.proofs.ToldLemmas.{Loses-none, Loses-twice}
use Rattle.orb_io.proofs.GivesLemmas.{Gives-none, Gives-weaker, Gives-then}
use Rattle.live_proxy.specs.declared.outcomes.ProxyOutcome.{ProxyOutcome}
use Rattle.live_proxy.proofs.RelayLemmas.{goes-on, cut, filled, filled-to_end, fed, endless}
use Rattle.live_proxy.proofs.PullLemmas.{nothing-lost, pumped, pumped-none, relay-cause-after}
use Rattle.live_proxy.proofs.relaying.pump.Goals as goal

pub pulls-init : goal.pulls-init
pulls-init g c = record {
  pumps = λ x bytes given h is. Gives-none _ given _ (g.met.K.Sink.told_agrees c.args.client.now) (record {
    read = [];
    lost = Loses-none _;
    passed = rw (append-nil bytes) h;
    taken_is = rw (append-nil bytes) is;
  });
  few = c.requires.few;
  room = c.requires.room;
  source = refl;
  client = refl;
  keeps_upstream = g.met.U.Source.kept_reflexive c.args.upstream.now;
  keeps_client = g.met.K.Sink.kept_reflexive c.args.client.now;
  limit = refl;
}

pub returns-in_default-clause-pumps : goal.returns-in_default-clause-pumps
returns-in_default-clause-pumps g c = λ x bytes given h is.
    Gives-weaker _ _ given _ _ (λ more w.
    let r = w.passed.receives in
    let whole = c.is_whole.ensures.whole r.text.frame r.sent r.body r.unframer in
    let pending = sym c.is_whole.ensures.value ∙ c.pulls-test.true in
    pumped-none _ _ _ _ bytes w.read _ false _ w.lost c.in_default.ensures.bytes (λ never. absurd (false≢true never))
    (omega (arith, w.taken_is, c.pulls.invariant.few))
    (refl, goes-on x _ _ _ _ w.passed pending (λ ends. false≢true (sym c.pulls-test.true ∙ whole.1 ends))))
    (c.pulls.invariant.pumps x bytes given h is)

pub returns-then-arriving-clause-pumps : goal.returns-then-arriving-clause-pumps
returns-then-arriving-clause-pumps g c = λ x bytes given h is.
    Gives-weaker _ _ given _ _ (λ more w.
    let r = w.passed.receives in
    let whole = c.is_whole.ensures.whole r.text.frame r.sent r.body r.unframer in
    let pending = sym c.is_whole.ensures.value ∙ c.pulls-test.true in
    pumped-none _ _ _ _ bytes w.read _ true _ w.lost (nothing-lost _ _ _ _ c.if-count-eq0.true c.in-Ok.ensures.bytes.0)
    (λ _. c.in-Ok.ensures.bytes.1 c.if-count-eq0.true (omega (arith, c.pulls.invariant.room, c.pull_within.ensures.room)))
    (omega (arith, w.taken_is, c.pulls.invariant.few))
    (filled-to_end x _ _ _ _ w.passed pending (λ ends. false≢true (sym c.pulls-test.true ∙ whole.1 ends)) c.if-arriving.true))
    (c.pulls.invariant.pumps x bytes given h is)

pub returns-else-arriving-clause-pumps : goal.returns-else-arriving-clause-pumps
returns-else-arriving-clause-pumps g c = λ x bytes given h is.
    Gives-weaker _ _ given _ _ (λ more w.
    let r = w.passed.receives in
    let whole = c.is_whole.ensures.whole r.text.frame r.sent r.body r.unframer in
    let pending = sym c.is_whole.ensures.value ∙ c.pulls-test.true in
    pumped-none _ _ _ _ bytes w.read _ true _ w.lost (nothing-lost _ _ _ _ c.if-count-eq0.true c.in-Ok.ensures.bytes.0)
    (λ _. c.in-Ok.ensures.bytes.1 c.if-count-eq0.true (omega (arith, c.pulls.invariant.room, c.pull_within.ensures.room)))
    (omega (arith, w.taken_is, c.pulls.invariant.few))
    (cut x _ _ _ _ w.passed pending (λ ends. false≢true (sym c.pulls-test.true ∙ whole.1 ends)) c.if-arriving.false))
    (c.pulls.invariant.pumps x bytes given h is)

pub returns-then-taken-eq-MOST_OF_A_RUN-clause-pumps : goal.returns-then-taken-eq-MOST_OF_A_RUN-clause-pumps
returns-then-taken-eq-MOST_OF_A_RUN-clause-pumps g c = λ x bytes given h is.
    Gives-weaker _ _ given _ _ (λ more w.
    let r = w.passed.receives in
    let whole = c.is_whole.ensures.whole r.text.frame r.sent r.body r.unframer in
    let pending = sym c.is_whole.ensures.value ∙ c.pulls-test.true in
    pumped _ _ _ _ bytes w.read _ _ false _ w.lost c.in-Ok.ensures.bytes.0 (λ never. absurd (false≢true never))
    (λ never. absurd (false≢true (sym never)))
    (endless x _ _ _ _ _ w.passed pending (λ ends. false≢true (sym c.pulls-test.true ∙ whole.1 ends))
    (omega (arith, w.taken_is, c.if-taken-eq-MOST_OF_A_RUN.true))
    (omega (arith, c.in-Ok.ensures.bound, c.if-count-eq0.false, length-take c.in-Ok.count c.pull_within.new.room))))
    (c.pulls.invariant.pumps x bytes given h is)

pub pass-requires : goal.pass-requires
pass-requires g c =
    let (x, bytes, given, h, is) = c.requires.can in
    let w = (c.pulls.invariant.pumps x bytes given h is).holds in
    (x, _, _, fed x _ _ _ (take c.in-Ok.count c.pull_within.new.room) _ w.passed (sym c.is_whole.ensures.value ∙ c.pulls-test.true))

pub returns-in-Err-clause-pumps : goal.returns-in-Err-clause-pumps
returns-in-Err-clause-pumps g c = λ x bytes given h is.
    let piece = take c.in-Ok.count c.pull_within.new.room in
    Gives-then _ _ _ given _ _ (c.pulls.invariant.pumps x bytes given h is) (λ more w.
    let pending = sym c.is_whole.ensures.value ∙ c.pulls-test.true in
    Gives-weaker _ _ (given ++ more) _ _ (λ further stops.
    pumped _ _ _ _ bytes w.read piece _ false _ w.lost c.in-Ok.ensures.bytes.0 (λ never. absurd (false≢true never))
    (λ _. omega (arith, c.in-Ok.ensures.few, c.pulls.invariant.few, w.taken_is, length-append (bytes ++ w.read) piece, length-take c.in-Ok.count c.pull_within.new.room))
    stops)
    (c.in-Err.ensures.acts.tells x _ (given ++ more) (fed x _ _ _ piece _ w.passed pending)))

pub returns-in-Err-clause-causes : goal.returns-in-Err-clause-causes
returns-in-Err-clause-causes g c =
    let put : Result (Unit {0}) ProxyOutcome = Err c.in-Err.outcome in
    relay-cause-after put _ _ _ _ _ (c.in-Ok.ensures.cause ∙ c.pulls.invariant.source) c.pulls.invariant.client
    c.in-Err.ensures.acts.cause

pub pulls-preserved : goal.pulls-preserved
pulls-preserved g c =
    let i = c.pulls.invariant in
    let piece = take c.in-Ok.count c.pull_within.new.room in
    record {
      pumps = λ x bytes given h is. Gives-then _ _ _ given _ _ (i.pumps x bytes given h is) (λ more w.
          let pending = sym c.is_whole.ensures.value ∙ c.pulls-test.true in
          Gives-weaker _ _ (given ++ more) _ _ (λ further passed. record {
            read = w.read ++ piece;
            lost = Loses-twice _ _ _ w.read piece w.lost c.in-Ok.ensures.bytes.0;
            passed = rw (← append_assoc bytes w.read piece) passed;
            taken_is = omega (
              arith,
              w.taken_is,
              length-append bytes (w.read ++ piece),
              length-append w.read piece,
              length-append bytes w.read,
              length-take c.in-Ok.count c.pull_within.new.room,
              c.in-Ok.ensures.bound,
            );
          })
          (c.in-Ok-pass.ensures.acts.tells x _ (given ++ more) (fed x _ _ _ piece _ w.passed pending)));
      few = omega (arith, c.in-Ok.ensures.few, i.few);
      room = omega (arith, i.room, c.pull_within.ensures.room);
      source = c.in-Ok.ensures.cause ∙ i.source;
      client = c.in-Ok-pass.ensures.acts.cause ∙ i.client;
      keeps_upstream = g.met.U.Source.kept_transitive _ _ _ i.keeps_upstream c.pull_within.ensures.keeps;
      keeps_client = g.met.K.Sink.kept_transitive _ _ _ i.keeps_client c.in-Ok-pass.ensures.acts.keeps;
      limit = c.in-Ok-pass.ensures.limit ∙ i.limit;
    }

pub returns-clause-pumps : goal.returns-clause-pumps
returns-clause-pumps g c = λ x bytes given h is.
    Gives-weaker _ _ given _ _ (λ more w.
    let r = w.passed.receives in
    let whole = c.is_whole.ensures.whole r.text.frame r.sent r.body r.unframer in
    pumped-none _ _ _ _ bytes w.read _ false _ w.lost (Loses-none _) (λ never. absurd (false≢true never))
    (omega (arith, w.taken_is, c.pulls.invariant.few))
    (filled x _ _ _ _ w.passed (whole.0 c.pulls-test.false)))
    (c.pulls.invariant.pumps x bytes given h is)
