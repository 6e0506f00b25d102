use Rattle.std.proofs.Common.{[], ◌∷◌}
use Rattle.std.proofs.lemmas.Result.{err_from_is_err_and}
use Rattle.orb_bytes.specs.Ascii.{solidus}
use Rattle.mime_types.specs.Sets.{main_of, sub_of}
use Rattle.orb_io.specs.declared.outside.Failed.{Failed}
use Rattle.orb_io.proofs.CallLemmas.{Puts-then}
use Rattle.computed_type.proofs.WritingLemmas.{solidus-fault}
use Rattle.computed_type.proofs.writing.put_supplied.Goals as goal

pub returns-in_err-push : goal.returns-in_err-push
returns-in_err-push g c =
    let err = err_from_is_err_and c.from_residual-in_err-push.result c.from_residual-in_err-push.ensures.1 in
    rw err.1 (record {
      puts = solidus-fault g.O.Sink c.args.sink.now c.put_lowered.new.sink c.push.new.self c.in_err-push.field-0.0 err.0
          (main_of c.args.essence.now) (sub_of c.args.essence.now) (g.met.O.Sink.kept_transitive _ _ _) c.in_ok-put_lowered.ensures.puts (record {
            bytes = c.in_err-push.ensures.bytes;
            cause = c.in_err-push.ensures.cause;
            keeps = c.push.ensures.keeps;
          });
    })

pub returns : goal.returns
returns g c = record {
  puts = Puts-then {T = Unit {0}} {E = Failed} g.O.Sink c.in_ok-put_lowered.field-0 c.put_lowered-2.result c.args.sink.now c.put_lowered.new.sink
      c.put_lowered-2.new.sink (main_of c.args.essence.now) (solidus ∷ sub_of c.args.essence.now) (g.met.O.Sink.kept_transitive _ _ _)
      c.in_ok-put_lowered.ensures.puts
      (Puts-then {T = Unit {0}} {E = Failed} g.O.Sink c.in_ok-push.field-0 c.put_lowered-2.result c.put_lowered.new.sink c.push.new.self
      c.put_lowered-2.new.sink (solidus ∷ []) (sub_of c.args.essence.now) (g.met.O.Sink.kept_transitive _ _ _) (record {
        bytes = c.in_ok-push.ensures.bytes;
        cause = c.in_ok-push.ensures.cause;
        keeps = c.push.ensures.keeps;
      }) c.put_lowered-2.ensures.puts);
}
