use Rattle.std.proofs.Common.{◌≡◌}
use Rattle.orb_io.specs.Told.{Gains}
use Rattle.orb_cli.specs.Report.{client_status_of}
use Rattle.orb_cli.specs.Serving.{Serves}
use Rattle.orb_cli.proofs.proxying.serve_clients.Given as goal

abbrev pub invariant-loop-before : goal.invariant-loop-before
invariant-loop-before g l = record {
  serves : Serves client_status_of (g.L.Listener.handed l.fn.listener) (g.L.Listener.handed l.listener) l.before
      (Gains (g.O.Sink.told l.fn.log) (g.O.Sink.told l.log));
  binds : g.L.Listener.bind_faults l.listener ≡ g.L.Listener.bind_faults l.fn.listener;
  accepts : g.L.Listener.accept_faults l.listener ≡ g.L.Listener.accept_faults l.fn.listener;
  log : g.O.Sink.faults l.log ≡ g.O.Sink.faults l.fn.log;
}
