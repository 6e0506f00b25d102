use Rattle.std.proofs.Common.{[], ◌∙◌, sym, subst}
use Rattle.orb_io.proofs.GivesLemmas.{Gives-weaker}
use Rattle.orb_engine.specs.declared.settings.Settings.{Settings}
use Rattle.orb_cli.specs.declared.outcome.Outcome.{Outcome}
use Rattle.orb_cli.specs.Answer.{HasCauses}
use Rattle.orb_cli.specs.Har.{log_settings, IsWholeAnswer}
use Rattle.orb_cli.specs.Outcomes.{outcome_of}
use Rattle.orb_cli.proofs.HarLemmas.{whole_causes}
use Rattle.orb_cli.proofs.har_word.judge_whole.Goals as goal

pub returns-in-Ok-clause-wrote : goal.returns-in-Ok-clause-wrote
returns-in-Ok-clause-wrote g c =
    Gives-weaker _ _ [] _ _ (λ wrote says.
    subst (λ (o : Outcome). IsWholeAnswer log_settings c.args.recording.now o wrote) (sym c.from.ensures)
    (subst (λ (s : Settings). IsWholeAnswer s c.args.recording.now (outcome_of c.run_whole.result) wrote)
    (c.in-Ok.ensures.settings ∙ c.settings.ensures) says))
    c.run_whole.ensures.tells

pub returns-in-Ok-clause-causes : goal.returns-in-Ok-clause-causes
returns-in-Ok-clause-causes g c n =
    subst (λ (o : Outcome). HasCauses n n (g.O.Sink.faults c.args.output.now) (g.O.Sink.faults c.run_whole.new.output) o) (sym c.from.ensures)
    (whole_causes c.run_whole.result _ c.args.recording.now _ n _ _ c.run_whole.ensures.tells.holds c.run_whole.ensures.cause)
