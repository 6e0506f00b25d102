use Rattle.std.proofs.Common.{[], refl, ◌∙◌}
use Rattle.orb_io.proofs.GivesLemmas.{Gives-none, Gives-weaker}
use Rattle.live_proxy.specs.Responses.{judged_in}
use Rattle.live_proxy.proofs.RelayLemmas.{text_read, same-response, refused, begun, begun-fails}
use Rattle.live_proxy.proofs.relaying.begin.Goals as goal

pub returns-in-Err-clause-acts : goal.returns-in-Err-clause-acts
returns-in-Err-clause-acts g c = record {
  tells = λ rest.
      Gives-none _ [] _ (g.met.K.Sink.told_agrees c.args.client.now)
      (refused c.args.context c.args.head.now rest c.in-Err.kind c.requires.text c.in-Err.ensures.reads);
  cause = refl;
  keeps = g.met.K.Sink.kept_reflexive c.args.client.now;
}

pub begin_with-requires-clause-made : goal.begin_with-requires-clause-made
begin_with-requires-clause-made g c = record {
  h = judged_in c.args.context (text_read c.args.context c.args.head.now c.in-Ok.read.0 c.in-Ok.read.1 c.in-Ok.ensures.reads);
  of_head = c.in-Ok.ensures.reads.facts;
  limit = c.requires.limit;
}

pub returns-in-Ok-begin_with-clause-acts : goal.returns-in-Ok-begin_with-clause-acts
returns-in-Ok-begin_with-clause-acts g c = record {
  tells = λ rest.
      let x = c.args.context in
      let head = c.args.head.now in
      let (facts, frame) = c.in-Ok.read in
      let reads = c.in-Ok.ensures.reads in
      let same = same-response x head facts frame reads _ _ (c.as_slice.ensures.value ∙ c.response.ensures.same) c.is_chunked.ensures in
      Gives-weaker _ _ [] _ _ (λ more owes.
      begun x head facts _ frame reads _ _ rest more c.requires.text same c.new.ensures c.is_to_end.ensures owes.0 owes.1)
      (c.in-Ok-begin_with.ensures.calls.tells (judged_in x (text_read x head facts frame reads)) reads.facts);
  cause = c.in-Ok-begin_with.ensures.calls.cause;
  keeps = c.in-Ok-begin_with.ensures.calls.keeps;
}

pub returns-in-Err-begin_with-clause-acts : goal.returns-in-Err-begin_with-clause-acts
returns-in-Err-begin_with-clause-acts g c = record {
  tells = λ rest.
      let x = c.args.context in
      let head = c.args.head.now in
      let (facts, frame) = c.in-Ok.read in
      let reads = c.in-Ok.ensures.reads in
      let same = same-response x head facts frame reads _ _ (c.as_slice.ensures.value ∙ c.response.ensures.same) c.is_chunked.ensures in
      Gives-weaker _ _ [] _ _ (λ more within.
      begun-fails x head facts frame reads _ rest more c.requires.text same within)
      (c.in-Err-begin_with.ensures.calls.tells (judged_in x (text_read x head facts frame reads)) reads.facts);
  cause = c.in-Err-begin_with.ensures.calls.cause;
  keeps = c.in-Err-begin_with.ensures.calls.keeps;
}
