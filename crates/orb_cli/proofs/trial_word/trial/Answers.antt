use Rattle.std.proofs.Common.{[], refl, ◌∙◌}
use Rattle.orb_io.proofs.GivesLemmas.{Gives-of}
use Rattle.orb_cli.proofs.TrialLemmas.{line_is}
use Rattle.orb_cli.proofs.trial_word.trial.Goals as goal

pub returns-in-Ok-push_nonempty-clause-wrote : goal.returns-in-Ok-push_nonempty-clause-wrote
returns-in-Ok-push_nonempty-clause-wrote g c =
    Gives-of _ _ [] _ _ c.in-Ok-push_nonempty.ensures.puts.bytes (
      refl,
      line_is c.trial_run.new.engine _ c.args.seed c.args.count _ _ _ _ c.count.result c.as_slice.result.now
          (c.in-Ok.ensures.settings ∙ c.settings.ensures) c.requires.count c.new-written.ensures c.in-Done.ensures.acts.tells
          c.allowed.ensures c.blocked.ensures c.count.ensures.size (c.as_slice.ensures.value ∙ c.line-line.ensures),
    )

pub returns-clause-wrote : goal.returns-clause-wrote
returns-clause-wrote g c =
    let written = c.in-Err-push_nonempty.ensures.puts.bytes in
    Gives-of _ _ [] written.0 _ written.2 (
      refl,
      c.as_slice.result.now,
      line_is c.trial_run.new.engine _ c.args.seed c.args.count _ _ _ _ c.count.result c.as_slice.result.now
          (c.in-Ok.ensures.settings ∙ c.settings.ensures) c.requires.count c.new-written.ensures c.in-Done.ensures.acts.tells
          c.allowed.ensures c.blocked.ensures c.count.ensures.size (c.as_slice.ensures.value ∙ c.line-line.ensures),
      written.1,
    )
