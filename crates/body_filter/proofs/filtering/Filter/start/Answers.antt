use Rattle.std.proofs.Common.{◌≡◌, ◌++◌, [], true, refl, sym, ap, ◌∙◌}
use Rattle.std.proofs.lemmas.Result.{on_ok_weaker}
use Rattle.orb_io.proofs.GivesLemmas.{Gives-none, Delivers-put}
use Rattle.response_rules.specs.Settled.{is_sent}
use Rattle.body_filter.specs.Responses.{response_of, output_so_far}
use Rattle.http_exchange.proofs.FramingLaws.{kept-none}
use Rattle.body_filter.proofs.FilterLemmas.{so_far-unsent}
use Rattle.body_filter.proofs.OwedLemmas.{first-sent}
use Rattle.body_filter.proofs.PhaseLemmas.{reads-holding, reads-passing, reads-dropping, made-limit, judged-allowed, judged-blocked, judged-open}
use Rattle.body_filter.proofs.filtering.Filter.start.Goals as goal

pub returns-in-Allowed-clause-calls : goal.returns-in-Allowed-clause-calls
returns-in-Allowed-clause-calls g c = record {
  tells = λ h r.
      let x = response_of h c.args.head.now c.args.chunked in
      let sent : is_sent h [] ≡ true = judged-allowed _ _ (sym c.in-Allowed.is ∙ c.judge.ensures h [] r) in
      Delivers-put _ _ c.idle_at_fault.result [] c.args.head.now (output_so_far x []) _
      (rw c.idle_at_fault.ensures.same c.put_bytes.ensures.puts.bytes) (first-sent x sent)
      (on_ok_weaker c.idle_at_fault.result
      (λ is. reads-passing _ x [] (made-limit c.args.self.now.decider _ h c.requires.made r) r is
      (record {
        sent = sent;
        chunked = c.start.ensures.chunked;
        rest = c.start.ensures.rest ∙ sym (kept-none c.args.chunked);
      }))
      c.idle_at_fault.ensures.ok);
  cause = rw c.idle_at_fault.ensures.same c.put_bytes.ensures.puts.cause;
  keeps = c.put_bytes.ensures.puts.keeps;
}

pub returns-in-Blocked-clause-calls : goal.returns-in-Blocked-clause-calls
returns-in-Blocked-clause-calls g c = record {
  tells = λ h r.
      let x = response_of h c.args.head.now c.args.chunked in
      let judged = judged-blocked _ _ (sym c.in-Blocked.is ∙ c.judge.ensures h [] r) in
      Gives-none _ [] _ (g.met.O.Sink.told_agrees c.args.sink.now) (
        sym (so_far-unsent x [] judged.0),
        (reads-dropping _ x [] (made-limit c.args.self.now.decider _ h c.requires.made r) r refl
            (record { over = judged.1 })),
      );
  cause = refl;
  keeps = g.met.O.Sink.kept_reflexive c.args.sink.now;
}

pub returns-in-Open-clause-calls : goal.returns-in-Open-clause-calls
returns-in-Open-clause-calls g c = record {
  tells = λ h r.
      let x = response_of h c.args.head.now c.args.chunked in
      let judged = judged-open _ _ (sym c.in-Open.is ∙ c.judge.ensures h [] r) in
      Gives-none _ [] _ (g.met.O.Sink.told_agrees c.args.sink.now) (
        sym (so_far-unsent x [] judged.0),
        (reads-holding _ x [] (made-limit c.args.self.now.decider _ h c.requires.made r) r refl
            (record {
              unsent = judged.0;
              hopeful = judged.1;
              head = c.append.ensures.items ∙ ap (λ t. t ++ c.args.head.now) c.clear-in-Open.ensures.items;
              held = c.clear.ensures.items;
              chunked = c.start.ensures.chunked;
              rest = c.start.ensures.rest;
            })),
      );
  cause = refl;
  keeps = g.met.O.Sink.kept_reflexive c.args.sink.now;
}
