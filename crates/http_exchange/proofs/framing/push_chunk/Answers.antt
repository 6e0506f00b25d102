use Rattle.std.proofs.lemmas.Result.{err_from_is_err_and}
use Rattle.orb_io.proofs.CallLemmas.{Puts-then, Puts-first}
use Rattle.http_exchange.proofs.ChunkLemmas.{chunk-parts}
use Rattle.http_exchange.proofs.framing.push_chunk.Goals as goal

pub returns-in_err-push_nonempty : goal.returns-in_err-push_nonempty
returns-in_err-push_nonempty g c =
    let err = err_from_is_err_and c.from_residual.result c.from_residual.ensures.1 in
    rw (err.1, ← chunk-parts c.args.prefix.now c.args.back.now c.requires) (Puts-first g.O.Sink _ _ _ _ _ _ c.in_err-push_nonempty.ensures.puts)

pub returns-in_err-push_nonempty-2 : goal.returns-in_err-push_nonempty-2
returns-in_err-push_nonempty-2 g c =
    let err = err_from_is_err_and c.from_residual-in_err-push_nonempty-2.result c.from_residual-in_err-push_nonempty-2.ensures.1 in
    rw (err.1, ← chunk-parts c.args.prefix.now c.args.back.now c.requires)
    (Puts-then g.O.Sink _ _ _ _ _ _ _ (g.met.O.Sink.kept_transitive _ _ _) c.in_ok-push_nonempty.ensures.puts
    (Puts-first g.O.Sink _ _ _ _ _ _ c.in_err-push_nonempty-2.ensures.puts))

pub returns-in_err-push_nonempty-3 : goal.returns-in_err-push_nonempty-3
returns-in_err-push_nonempty-3 g c =
    let err = err_from_is_err_and c.from_residual-in_err-push_nonempty-3.result c.from_residual-in_err-push_nonempty-3.ensures.1 in
    rw (err.1, ← chunk-parts c.args.prefix.now c.args.back.now c.requires)
    (Puts-then g.O.Sink _ _ _ _ _ _ _ (g.met.O.Sink.kept_transitive _ _ _) c.in_ok-push_nonempty.ensures.puts
    (Puts-then g.O.Sink _ _ _ _ _ _ _ (g.met.O.Sink.kept_transitive _ _ _) c.in_ok-push_nonempty-2.ensures.puts
    (Puts-first g.O.Sink _ _ _ _ _ _ c.in_err-push_nonempty-3.ensures.puts)))

pub returns : goal.returns
returns g c =
    rw (← chunk-parts c.args.prefix.now c.args.back.now c.requires)
    (Puts-then g.O.Sink _ _ _ _ _ _ _ (g.met.O.Sink.kept_transitive _ _ _) c.in_ok-push_nonempty.ensures.puts
    (Puts-then g.O.Sink _ _ _ _ _ _ _ (g.met.O.Sink.kept_transitive _ _ _) c.in_ok-push_nonempty-2.ensures.puts
    (Puts-then g.O.Sink _ _ _ _ _ _ _ (g.met.O.Sink.kept_transitive _ _ _) c.in_ok-push_nonempty-3.ensures.puts c.push_nonempty-4.ensures.puts)))
