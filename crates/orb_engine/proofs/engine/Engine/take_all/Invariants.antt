use Rattle.std.proofs.Common.{◌≡◌, ◌++◌, ℕ, List, length}
use Rattle.orb_io.specs.Told.{Gives}
use Rattle.orb_engine.specs.declared.settings.Settings.{Settings}
use Rattle.orb_engine.specs.Reads.{Reads}
use Rattle.orb_engine.specs.Steps.{Meets}
use Rattle.orb_engine.proofs.engine.Engine.take_all.Given as goal

-- what was taken so far is a prefix of the piece
abbrev pub invariant-steps : goal.invariant-steps
invariant-steps g l = record {
  prefix : List ℕ;
  cut : l.piece ≡ prefix ++ l.rest;
  can : Meets (Reads l.self);
  goes : (s : Settings) (m given : List ℕ) → Reads l.initial.self s m given
      → Gives (g.O.Sink.told l.initial.output) (g.O.Sink.told l.output) given (Reads l.self s (m ++ prefix));
  no_faults : g.O.Sink.faults l.output ≡ g.O.Sink.faults l.initial.output;
  keeps : g.O.Sink.kept l.initial.output l.output;
  settings : l.self.writer.settings ≡ l.initial.self.writer.settings;
}

abbrev pub decreases-steps : goal.decreases-steps
decreases-steps g l = length l.rest
