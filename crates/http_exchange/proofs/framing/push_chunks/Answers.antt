use Rattle.std.proofs.Common.{◌≡◌, ◌+◌, ◌-◌, length, take, refl, ap, ◌∙◌, arith}
use Rattle.std.proofs.lemmas.Result.{err_from_is_err_and}
use Rattle.http_exchange.proofs.FramingLemmas.{gathers-one, cut-first, cut-more, cut-fault, cut-last, cut-rest}
use Rattle.http_exchange.proofs.framing.push_chunks.Goals as goal

pub chunks-init : goal.chunks-init
chunks-init g c = record {
  short = c.requires.short;
  rest_room = c.requires.rest_room;
  cut = cut-first _ c.args.rest.now.items c.args.piece.now c.requires.short (g.met.O.Sink.told_agrees c.args.sink.now);
  calm = refl;
  kept = g.met.O.Sink.kept_reflexive c.args.sink.now;
}

pub chunks-preserved : goal.chunks-preserved
chunks-preserved g c =
    let rest = c.chunks.rest.items in
    let left = c.chunks.left.now in
    let size = 1024 - c.len-in-chunks.result in
    let full : length rest + length (take size left) ≡ 1024 =
    omega (arith, ap length c.split_at.ensures.front, c.split_at.ensures.front_len, c.len-in-chunks.ensures) in
    record {
      short = rw c.clear.ensures.items (omega arith);
      rest_room = omega (arith, c.clear.ensures.capacity, c.chunks.invariant.rest_room);
      cut = rw (c.clear.ensures.items, c.split_at.ensures.back)
          (cut-more _ (g.O.Sink.told c.chunks.sink) _ _ _ _ _ _ _ _ c.chunks.invariant.cut (gathers-one rest left size full)
          (rw (← c.as_slice.ensures.value, ← c.split_at.ensures.front) c.in_ok-push_chunk.ensures.bytes));
      calm = c.in_ok-push_chunk.ensures.cause ∙ c.chunks.invariant.calm;
      kept = g.met.O.Sink.kept_transitive _ _ _ c.chunks.invariant.kept c.in_ok-push_chunk.ensures.keeps;
    }

pub returns-in_err-push_chunk-clause-puts : goal.returns-in_err-push_chunk-clause-puts
returns-in_err-push_chunk-clause-puts g c =
    let rest = c.chunks.rest.items in
    let left = c.chunks.left.now in
    let size = 1024 - c.len-in-chunks.result in
    let full : length rest + length (take size left) ≡ 1024 =
    omega (arith, ap length c.split_at.ensures.front, c.split_at.ensures.front_len, c.len-in-chunks.ensures) in
    let err = err_from_is_err_and c.from_residual.result c.from_residual.ensures.1 in
    rw err.1 (record {
      bytes = cut-fault _ (g.O.Sink.told c.chunks.sink) _ _ _ _ _ _ _ _ c.chunks.invariant.cut (gathers-one rest left size full)
          (rw (← c.as_slice.ensures.value, ← c.split_at.ensures.front) c.in_err-push_chunk.ensures.bytes);
      cause = rw (← c.chunks.invariant.calm) c.in_err-push_chunk.ensures.cause;
      keeps = g.met.O.Sink.kept_transitive _ _ _ c.chunks.invariant.kept c.in_err-push_chunk.ensures.keeps;
    })

pub returns-clause-puts : goal.returns-clause-puts
returns-clause-puts g c = record {
  bytes = cut-last _ _ _ _ _ _ c.chunks.invariant.cut (omega arith);
  cause = c.chunks.invariant.calm;
  keeps = c.chunks.invariant.kept;
}

pub returns-clause-rest : goal.returns-clause-rest
returns-clause-rest g c = rw c.append.ensures.items (cut-rest _ _ _ _ _ _ c.chunks.invariant.cut (omega arith))
