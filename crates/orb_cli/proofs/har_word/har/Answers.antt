use Rattle.std.proofs.Common.{ℕ, [], ◌∙◌, sym, subst}
use Rattle.orb_io.proofs.GivesLemmas.{Gives-none, Gives-weaker}
use Rattle.orb_cli.specs.Answer.{HasCauses}
use Rattle.orb_cli.proofs.HarLemmas.{read_judged, unread_log, unread_causes}
use Rattle.orb_cli.proofs.har_word.har.Goals as goal

pub returns-in-Ok-clause-ran : goal.returns-in-Ok-clause-ran
returns-in-Ok-clause-ran g c =
    let says = c.in-Ok.ensures.read in
    Gives-weaker _ _ [] _ _ (λ wrote answers.
    read_judged says.0 c.as_slice.result.now _ _ c.judge_log.result wrote says.1 (c.as_slice.ensures.value ∙ says.2.0) says.2.1 says.2.2 answers)
    c.judge_log.ensures.wrote

pub returns-in-Ok-clause-causes : goal.returns-in-Ok-clause-causes
returns-in-Ok-clause-causes g c =
    subst (λ (n : ℕ). HasCauses (g.I.Source.faults c.args.input.now) n (g.O.Sink.faults c.args.output.now)
    (g.O.Sink.faults c.judge_log.new.output) c.judge_log.result) (sym c.in-Ok.ensures.causes)
    (c.judge_log.ensures.causes (g.I.Source.faults c.args.input.now))

pub returns-in-Err-clause-ran : goal.returns-in-Err-clause-ran
returns-in-Err-clause-ran g c =
    let says = c.in-Err.ensures.read in
    Gives-none _ [] _ (g.met.O.Sink.told_agrees c.args.output.now)
    (unread_log c.in-Err.outcome says.0 _ _ says.1 says.2)

pub returns-in-Err-clause-causes : goal.returns-in-Err-clause-causes
returns-in-Err-clause-causes g c =
    let says = c.in-Err.ensures.read in
    unread_causes c.in-Err.outcome says.0 _ _ _ says.2 c.in-Err.ensures.causes
