use Rattle.std.proofs.Common.{◌≡◌, ◌++◌, ap, sym, arith, append_assoc, take, drop, ◌∙◌}
use Rattle.http_exchange.specs.Chunks.{chunk}
use Rattle.trial.specs.Texts.{chunked_text}
use Rattle.trial.proofs.SourceLemmas.{chunks_step}
use Rattle.trial.proofs.bodies.append_chunks.Goals as goal

pub chunks-preserved : goal.chunks-preserved
chunks-preserved c =
    let text = c.chunks.text.items in
    let left = c.chunks.left.now in
    let prefix : c.split_at.result.0.now ≡ take 100 left = c.split_at.ensures.front in
    let back : c.split_at.result.1.now ≡ drop 100 left = c.split_at.ensures.back in
    record {
      whole = rw (c.append_chunk.ensures.text, prefix, back)
          (append_assoc text (chunk (take 100 left)) (chunked_text 100 (drop 100 left))
          ∙ ap (λ l. text ++ l) (sym (chunks_step left (omega arith)))
          ∙ c.chunks.invariant.whole);
      room = omega (
        arith,
        c.append_chunk.ensures.room,
        c.split_at.ensures.back_len,
        c.chunks.invariant.room,
      );
    }
