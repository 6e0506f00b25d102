use Rattle.std.proofs.Common.{◌≡◌, ◌++◌, length, true, length-append, refl, sym, ap, ◌∙◌, arith}
use Rattle.orb_io.proofs.GivesLemmas.{Gives-none, Delivers-put}
use Rattle.response_rules.specs.Settled.{is_sent}
use Rattle.http_exchange.specs.Framers.{is_chunked_by, kept_by}
use Rattle.body_filter.specs.Responses.{output_so_far}
use Rattle.body_filter.proofs.FilterLemmas.{so_far-unsent}
use Rattle.body_filter.proofs.HeldLemmas.{held-fits}
use Rattle.body_filter.proofs.OwedLemmas.{release-is, release-kept}
use Rattle.body_filter.proofs.PhaseLemmas.{reads-holding, reads-passing, reads-dropping, holds-of, judged-allowed, judged-blocked, judged-open, on_ok-both}
use Rattle.body_filter.proofs.filtering.Filter.feed_held.Goals as goal

pub returns-in-Allowed-clause-calls : goal.returns-in-Allowed-clause-calls
returns-in-Allowed-clause-calls g c = record {
  tells = λ x m r.
      let f = c.args.self.now in
      let p = c.args.piece.now in
      let s = holds-of f x m c.requires.holding r in
      let sent : is_sent x.judged (m ++ p) ≡ true =
      judged-allowed _ _ (sym c.in-Allowed.is ∙ c.read_on.ensures.gives x.judged m r.decides) in
      let w = f.framer in
      let head = c.deref.result.now in
      let held = c.deref-in-Allowed.result.now in
      Delivers-put _ _ c.idle_at_fault.result (output_so_far x m) _ (output_so_far x (m ++ p)) _
      (rw c.idle_at_fault.ensures.same c.release-put.ensures.puts.bytes)
      (release-is x m p (is_chunked_by w) (kept_by w) head held s.chunked s.rest (c.deref.ensures.value ∙ s.head)
      (c.deref-in-Allowed.ensures.value ∙ s.held) s.unsent sent)
      (on_ok-both c.idle_at_fault.result c.idle_at_fault.ensures.ok (rw c.idle_at_fault.ensures.same c.release-put.ensures.rest)
      (λ same rest.
      reads-passing _ x (m ++ p) r.limit (c.read_on.ensures.reads x.judged m r.decides) same
      (record {
        sent = sent;
        chunked = c.release-put.ensures.chunked ∙ s.chunked;
        rest = rest ∙ release-kept x m p (is_chunked_by w) (kept_by w) held s.chunked s.rest (c.deref-in-Allowed.ensures.value ∙ s.held);
      })));
  cause = rw c.idle_at_fault.ensures.same c.release-put.ensures.puts.cause;
  keeps = c.release-put.ensures.puts.keeps;
}

pub returns-in-Blocked-clause-calls : goal.returns-in-Blocked-clause-calls
returns-in-Blocked-clause-calls g c = record {
  tells = λ x m r.
      let f = c.args.self.now in
      let p = c.args.piece.now in
      let s = holds-of f x m c.requires.holding r in
      let judged = judged-blocked _ _ (sym c.in-Blocked.is ∙ c.read_on.ensures.gives x.judged m r.decides) in
      Gives-none _ (output_so_far x m) _ (g.met.O.Sink.told_agrees c.args.sink.now) (
        so_far-unsent x m s.unsent ∙ sym (so_far-unsent x (m ++ p) judged.0),
        (reads-dropping _ x (m ++ p) r.limit (c.read_on.ensures.reads x.judged m r.decides) refl
            (record { over = judged.1 })),
      );
  cause = refl;
  keeps = g.met.O.Sink.kept_reflexive c.args.sink.now;
}

pub returns-in-Open-clause-calls : goal.returns-in-Open-clause-calls
returns-in-Open-clause-calls g c = record {
  tells = λ x m r.
      let f = c.args.self.now in
      let p = c.args.piece.now in
      let s = holds-of f x m c.requires.holding r in
      let judged = judged-open _ _ (sym c.in-Open.is ∙ c.read_on.ensures.gives x.judged m r.decides) in
      Gives-none _ (output_so_far x m) _ (g.met.O.Sink.told_agrees c.args.sink.now) (
        so_far-unsent x m s.unsent ∙ sym (so_far-unsent x (m ++ p) judged.0),
        (reads-holding _ x (m ++ p) r.limit (c.read_on.ensures.reads x.judged m r.decides) c.requires.holding
            (record {
              unsent = judged.0;
              hopeful = judged.1;
              head = s.head;
              held = c.append.ensures.items ∙ ap (λ t. t ++ p) s.held;
              chunked = s.chunked;
              rest = s.rest;
            })),
      );
  cause = refl;
  keeps = g.met.O.Sink.kept_reflexive c.args.sink.now;
}

-- what is kept then fits
pub append-requires : goal.append-requires
append-requires g c =
    let f = c.args.self.now in
    let p = c.args.piece.now in
    let r = c.requires.can in
    let s = holds-of f r.x r.m c.requires.holding r.reads in
    let judged = judged-open _ _ (sym c.in-Open.is ∙ c.read_on.ensures.gives r.x.judged r.m r.reads.decides) in
    let fits = held-fits r.x.judged (r.m ++ p) _ (omega (arith, r.reads.limit)) judged.0 judged.1 in
    omega (arith, fits, r.reads.limit, length-append r.m p, f.held.ok.0, ap length s.held)

pub invariant_of-self-in-Open-clause-fits : goal.invariant_of-self-in-Open-clause-fits
invariant_of-self-in-Open-clause-fits g c =
    let f = c.args.self.now in
    let p = c.args.piece.now in
    let r = c.requires.can in
    let s = holds-of f r.x r.m c.requires.holding r.reads in
    let judged = judged-open _ _ (sym c.in-Open.is ∙ c.read_on.ensures.gives r.x.judged r.m r.reads.decides) in
    let fits = held-fits r.x.judged (r.m ++ p) _ (omega (arith, r.reads.limit)) judged.0 judged.1 in
    omega (arith, fits, r.reads.limit, length-append r.m p, c.append.new.text.ok.0, ap length c.append.ensures.items, ap length s.held, length-append f.held.items p)
