use Rattle.std.proofs.Common.{ℕ, List, [], Some, subst}
use Rattle.orb_io.proofs.GivesLemmas.{Gives-weaker}
use Rattle.orb_engine.specs.Runs.{settings_of, Ran as EngineRan}
use Rattle.trial.proofs.WholeLemmas.{is_recorded}
use Rattle.orb_cli.proofs.TrialLemmas.{trial_answers, trial_causes}
use Rattle.orb_cli.proofs.trial_word.trial_run.Goals as goal

pub returns-clause-acts : goal.returns-clause-acts
returns-clause-acts g c =
    let s = settings_of c.args.engine.now in
    record {
      tells = Gives-weaker _ _ [] _ _ (λ wrote ran.
          trial_answers c.run.result c.run.new.self s c.args.seed c.args.count _ wrote _ _
          (is_recorded s c.args.seed c.args.count c.requires.count)
          (subst (λ (t : List ℕ). EngineRan c.run.result c.run.new.self s (Some t) (Some c.run.new.input) wrote) c.new-source.ensures ran)
          c.run.ensures.causes)
          c.run.ensures.ran;
      cause = trial_causes c.run.result _ _ c.run.ensures.causes;
      keeps = c.run.ensures.sink;
    }
