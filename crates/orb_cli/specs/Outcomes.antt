-- The outcomes of runs as those of the program.
use Rattle.orb_engine.specs.declared.outcome.EngineOutcome.{EngineOutcome}
use Rattle.orb_engine.specs.declared.outcome.EngineOutcome.TheVariants as engine
use Rattle.computed_type.specs.declared.outcome.TypeOutcome.{TypeOutcome}
use Rattle.computed_type.specs.declared.outcome.TypeOutcome.TheVariants as types
use Rattle.orb_cli.specs.declared.outcome.Outcome.{Outcome}
use Rattle.orb_cli.specs.declared.outcome.Outcome.TheVariants as outcomes

-- the same outcome
abbrev pub outcome_of : EngineOutcome → Outcome
outcome_of engine.Done = outcomes.Done
outcome_of (engine.Bad kind place) = outcomes.Bad kind place
outcome_of (engine.Cut place) = outcomes.Cut place
outcome_of (engine.HeadLimit place) = outcomes.HeadLimit place
outcome_of (engine.MediaFull place) = outcomes.MediaFull place
outcome_of engine.Endless = outcomes.Endless
outcome_of engine.ReadFault = outcomes.ReadFault
outcome_of engine.WriteFault = outcomes.WriteFault

-- the same outcome, whose place is the beginning of the input
abbrev pub typed_outcome : TypeOutcome → Outcome
typed_outcome types.Done = outcomes.Done
typed_outcome (types.Bad kind) = outcomes.Bad kind 0
typed_outcome types.Cut = outcomes.Cut 0
typed_outcome types.HeadLimit = outcomes.HeadLimit 0
typed_outcome types.Endless = outcomes.Endless
typed_outcome types.ReadFault = outcomes.ReadFault
typed_outcome types.WriteFault = outcomes.WriteFault
