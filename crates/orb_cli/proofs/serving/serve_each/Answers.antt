use Rattle.std.proofs.Common.{◌+◌, Result, Ok, Err, arith}
use Rattle.orb_io.specs.declared.outside.Failed.{Failed}
use Rattle.orb_cli.specs.Serving.{status_in_log}
use Rattle.orb_cli.proofs.ServingLemmas.{Serves-pushed}
use Rattle.orb_cli.proofs.serving.serve_each.Goals as goal

pub loop-before-preserved : goal.loop-before-preserved
loop-before-preserved g c =
    let i = c.loop-before.invariant in
    let said = c.in-Ok-logged.ensures.served in
    let put : Result (Unit {0}) Failed = Ok c.in-Ok-logged.field-0 in
    record {
      serves = Serves-pushed status_in_log (g.L.Listener.handed c.args.listener.now) (g.L.Listener.handed c.loop-before.listener)
          (g.L.Listener.handed c.accept.new.self) (g.L.Listener.handed c.give_back.new.self) c.loop-before.before c.in-Ok.link said.0
          put (g.O.Sink.told c.args.log.now) (g.O.Sink.told c.loop-before.log) (g.O.Sink.told c.serve_link-logged.new.log) i.serves
          c.in-Ok.ensures.handed c.give_back.ensures.handed said.2.bytes;
      binds = omega (arith, c.give_back.ensures.binds, c.in-Ok.ensures.binds, i.binds);
      accepts = omega (arith, c.give_back.ensures.accepts, c.in-Ok.ensures.cause, i.accepts);
      log = omega (arith, said.2.cause, i.log);
    }

pub returns-in-Err-clause-served : goal.returns-in-Err-clause-served
returns-in-Err-clause-served g c =
    let i = c.loop-before.invariant in
    let said = c.in-Err.ensures.served in
    let put : Result (Unit {0}) Failed = Err c.in-Err.field-0 in (
      c.loop-before.before + 1,
      omega (arith, c.loop-before-test.true),
      Serves-pushed status_in_log (g.L.Listener.handed c.args.listener.now) (g.L.Listener.handed c.loop-before.listener)
          (g.L.Listener.handed c.accept.new.self) (g.L.Listener.handed c.give_back.new.self) c.loop-before.before c.in-Ok.link said.0
          put (g.O.Sink.told c.args.log.now) (g.O.Sink.told c.loop-before.log) (g.O.Sink.told c.serve_link-logged.new.log) i.serves
          c.in-Ok.ensures.handed c.give_back.ensures.handed said.2.bytes,
    )
