use Rattle.std.proofs.lemmas.Result.{err_from_is_err_and}
use Rattle.orb_io.proofs.CallLemmas.{Puts-then, Puts-first}
use Rattle.http_exchange.specs.Framing.{put_of}
use Rattle.http_exchange.specs.Framers.{is_chunked_by, kept_by}
use Rattle.body_filter.proofs.writing.put_whole.Goals as goal

pub returns-in_err-put_bytes : goal.returns-in_err-put_bytes
returns-in_err-put_bytes g c =
    let err = err_from_is_err_and c.from_residual.result c.from_residual.ensures.1 in
    record { puts = rw err.1 (Puts-first g.O.Sink _ _ _ _ c.args.head.now _ c.in_err-put_bytes.ensures.puts) }

pub returns-in_err-put_piece : goal.returns-in_err-put_piece
returns-in_err-put_piece g c =
    let err = err_from_is_err_and c.from_residual-in_err-put_piece.result c.from_residual-in_err-put_piece.ensures.1 in
    record {
      puts = rw err.1 (Puts-then g.O.Sink _ _ _ _ _ c.args.head.now _ (g.met.O.Sink.kept_transitive _ _ _)
          c.in_ok-put_bytes.ensures.puts (Puts-first g.O.Sink _ _ _ _ _ _ c.in_err-put_piece.ensures.puts));
    }

pub returns : goal.returns
returns g c =
    let w = c.args.framer.now in
    record {
      puts = Puts-then g.O.Sink _ c.put_last.result _ _ _ c.args.head.now _ (g.met.O.Sink.kept_transitive _ _ _)
          c.in_ok-put_bytes.ensures.puts
          (Puts-then g.O.Sink _ c.put_last.result _ _ _ (put_of (is_chunked_by w) (kept_by w) c.args.held.now) _
          (g.met.O.Sink.kept_transitive _ _ _) c.in_ok-put_piece.ensures.puts
          (rw (← c.in_ok-put_piece.ensures.rest, ← c.put_piece.ensures.chunked) c.put_last.ensures.puts));
    }
