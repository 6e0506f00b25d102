use Rattle.std.proofs.Common.{[], sym, ap, ◌∙◌, Ok}
use Rattle.orb_io.proofs.GivesLemmas.{Gives-weaker}
use Rattle.orb_cli.proofs.HarLemmas.{log_judged}
use Rattle.orb_cli.proofs.har_word.judge_log.Goals as goal

pub returns-in-Ok-clause-wrote : goal.returns-in-Ok-clause-wrote
returns-in-Ok-clause-wrote g c =
    Gives-weaker _ _ [] _ _ (λ wrote says.
    log_judged c.args.text.now c.as_slice.result.now c.requires (c.in-Ok.ensures.recording ∙ ap Ok (sym c.as_slice.ensures.value))
    c.judge_whole.result wrote says)
    c.judge_whole.ensures.wrote
