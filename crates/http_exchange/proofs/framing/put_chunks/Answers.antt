use Rattle.std.proofs.Common.{refl, ◌∙◌, arith}
use Rattle.std.proofs.lemmas.Result.{err_from_is_err_and}
use Rattle.http_exchange.proofs.FramingLemmas.{gathers-shorter, cut-first, cut-more, cut-fault, cut-last, cut-rest}
use Rattle.http_exchange.proofs.framing.put_chunks.Goals as goal

pub batches-init : goal.batches-init
batches-init g c = record {
  short = c.requires.short;
  rest_room = c.requires.rest_room;
  text_room = c.requires.text_room;
  cut = cut-first _ c.args.rest.now.items c.args.piece.now c.requires.short (g.met.O.Sink.told_agrees c.args.sink.now);
  calm = refl;
  kept = g.met.O.Sink.kept_reflexive c.args.sink.now;
}

pub batches-smaller : goal.batches-smaller
batches-smaller g c =
    gathers-shorter _ _ _ _ _ c.batches.invariant.short c.gather_chunks-left.ensures.gathers
    (c.gather_chunks-left.ensures.some (omega arith))

pub batches-preserved : goal.batches-preserved
batches-preserved g c = record {
  short = c.gather_chunks-left.ensures.short;
  rest_room = c.gather_chunks-left.ensures.rest_room;
  text_room = c.gather_chunks-left.ensures.text_room;
  cut = cut-more _ (g.O.Sink.told c.batches.sink) _ _ _ _ _ _ _ _
      c.batches.invariant.cut c.gather_chunks-left.ensures.gathers (rw (← c.as_slice.ensures.value) c.in_ok-push_nonempty.ensures.puts.bytes);
  calm = c.in_ok-push_nonempty.ensures.puts.cause ∙ c.batches.invariant.calm;
  kept = g.met.O.Sink.kept_transitive _ _ _ c.batches.invariant.kept c.in_ok-push_nonempty.ensures.puts.keeps;
}

pub returns-in_err-push_nonempty-clause-puts : goal.returns-in_err-push_nonempty-clause-puts
returns-in_err-push_nonempty-clause-puts g c =
    let err = err_from_is_err_and c.from_residual.result c.from_residual.ensures.1 in
    rw err.1 (record {
      bytes = cut-fault _ (g.O.Sink.told c.batches.sink) _ _ _ _ _ _ _ _
          c.batches.invariant.cut c.gather_chunks-left.ensures.gathers (rw (← c.as_slice.ensures.value) c.in_err-push_nonempty.ensures.puts.bytes);
      cause = rw (← c.batches.invariant.calm) c.in_err-push_nonempty.ensures.puts.cause;
      keeps = g.met.O.Sink.kept_transitive _ _ _ c.batches.invariant.kept c.in_err-push_nonempty.ensures.puts.keeps;
    })

pub returns-clause-puts : goal.returns-clause-puts
returns-clause-puts g c = record {
  bytes = cut-last _ _ _ _ _ _ c.batches.invariant.cut (omega arith);
  cause = c.batches.invariant.calm;
  keeps = c.batches.invariant.kept;
}

pub returns-clause-rest : goal.returns-clause-rest
returns-clause-rest g c = rw c.append.ensures.items (cut-rest _ _ _ _ _ _ c.batches.invariant.cut (omega arith))
