use Rattle.std.proofs.Common.{◌≡◌, ◌++◌, true, ◌∙◌}
use Rattle.orb_io.proofs.GivesLemmas.{Delivers-put}
use Rattle.response_rules.specs.Settled.{is_sent}
use Rattle.response_rules.proofs.SettledLemmas.{sent-longer}
use Rattle.http_exchange.specs.Framers.{is_chunked_by, kept_by}
use Rattle.body_filter.specs.Responses.{output_so_far}
use Rattle.body_filter.proofs.OwedLemmas.{sending-is, sending-kept}
use Rattle.body_filter.proofs.PhaseLemmas.{reads-passing, passes-of, on_ok-both}
use Rattle.body_filter.proofs.filtering.Filter.feed_sent.Goals as goal

pub returns-clause-calls : goal.returns-clause-calls
returns-clause-calls g c = record {
  tells = λ x m r.
      let f = c.args.self.now in
      let p = c.args.piece.now in
      let s = passes-of f x m c.requires.sending r in
      let sent : is_sent x.judged (m ++ p) ≡ true = sent-longer x.judged m p s.sent in
      Delivers-put _ _ c.idle_at_fault.result (output_so_far x m) _ (output_so_far x (m ++ p)) _
      (rw c.idle_at_fault.ensures.same c.put_piece-put.ensures.puts.bytes)
      (sending-is x m p (is_chunked_by f.framer) (kept_by f.framer) s.chunked s.rest s.sent sent)
      (on_ok-both c.idle_at_fault.result c.idle_at_fault.ensures.ok (rw c.idle_at_fault.ensures.same c.put_piece-put.ensures.rest)
      (λ same rest.
      reads-passing _ x (m ++ p) r.limit (c.read_on-judgement.ensures.reads x.judged m r.decides)
      (same ∙ c.requires.sending)
      (record {
        sent = sent;
        chunked = c.put_piece-put.ensures.chunked ∙ s.chunked;
        rest = rest ∙ sending-kept x m p (is_chunked_by f.framer) (kept_by f.framer) s.chunked s.rest;
      })));
  cause = rw c.idle_at_fault.ensures.same c.put_piece-put.ensures.puts.cause;
  keeps = c.put_piece-put.ensures.puts.keeps;
}
