use Rattle.std.proofs.Common.{[], List, ℕ, refl, ap, ◌∙◌, subst}
use Rattle.orb_io.specs.Told.{Pushes}
use Rattle.orb_io.proofs.GivesLemmas.{Gives-weaker}
use Rattle.orb_engine.specs.Runs.{settings_of}
use Rattle.orb_cli.specs.Outcomes.{outcome_of}
use Rattle.orb_cli.specs.Report.{status_of}
use Rattle.orb_cli.specs.Serving.{log_line}
use Rattle.orb_cli.proofs.AnswerLemmas.{Ran-run}
use Rattle.orb_cli.proofs.ServingLemmas.{causes-run}
use Rattle.orb_cli.proofs.serving.serve_link.Goals as goal

pub returns-clause-served : goal.returns-clause-served
returns-clause-served g c =
    let o = c.run_link.result in
    let s = settings_of c.args.engine.now in
    let old = c.args.link.now in
    let new = c.run_link.new.link in
    let line = c.as_slice.ensures.value ∙ c.line.ensures ∙ ap (λ n. log_line c.args.number n) (c.status.ensures ∙ ap status_of c.from-outcome.ensures) in (
      o,
      record {
        ran = Gives-weaker _ _ [] _ _ (λ wrote ran.
            Ran-run o c.run_link.new.self s s (g.K.Source.left old) (g.K.Source.left new) (outcome_of o) wrote refl refl ran)
            c.run_link.ensures.ran;
        causes = causes-run o _ _ _ _ c.run_link.ensures.causes;
      },
      record {
        bytes = subst (λ (t : List ℕ). Pushes c.push.result (g.O.Sink.told c.args.log.now) (g.O.Sink.told c.push.new.self) t) line
            c.push.ensures.bytes;
        cause = c.push.ensures.cause;
        keeps = c.push.ensures.keeps;
      },
    )
