use Rattle.std.proofs.Common.{◌++◌, length, ap, ◌∙◌, arith}
use Rattle.orb_io.proofs.GivesLemmas.{Gives-of, Delivers-fault, Delivers-as}
use Rattle.body_filter.specs.Responses.{output_so_far, whole_output}
use Rattle.orb_engine.specs.Outputs.{written_so_far, written_whole}
use Rattle.orb_engine.proofs.WorkLemmas.{for-filter, for-explain, reads-filter, reads-explain, so_far-filter, so_far-explain, whole-filter, ends-most, line-written}
use Rattle.orb_engine.proofs.worker.Worker.end.Goals as goal

pub returns-in-Filters-clause-calls : goal.returns-in-Filters-clause-calls
returns-in-Filters-clause-calls g c = record {
  tells = λ s x m works size.
      let it = for-filter c.args.self.now _ s c.in-Filters.is works.is_for in
      Delivers-as _ _ c.end.result (output_so_far x m) (written_so_far s.job x m) (whole_output x m) (written_whole s.job c.args.number x m) _ _
      (so_far-filter s.job x m it.0) (whole-filter s.job c.args.number x m it.0) (λ _ verdict. verdict)
      (c.end.ensures.calls.tells x m (reads-filter c.args.self.now _ x m c.in-Filters.is works.reads));
  cause = c.end.ensures.calls.cause;
  keeps = c.end.ensures.calls.keeps;
}

pub returns-in-Ok-clause-calls : goal.returns-in-Ok-clause-calls
returns-in-Ok-clause-calls g c = record {
  tells = λ s x m works size.
      let it = for-explain c.args.self.now _ s c.in-Explains.is works.is_for in
      let reads = reads-explain c.args.self.now _ x m c.in-Explains.is works.reads in
      let verdict = c.finish-verdict.ensures.verdict x.judged m reads in
      let line = c.as_slice.result.now in
      let owed = line-written c.args.number c.args.size s x m c.finish-verdict.result line it verdict size
      (c.as_slice.ensures.value ∙ c.line.ensures.line) in
      Gives-of _ _ (written_so_far s.job x m) line _ c.in-Ok.ensures.bytes
      (ap (λ t. t ++ line) (so_far-explain s.job x m it) ∙ owed, verdict);
  cause = c.in-Ok.ensures.cause;
  keeps = c.in-Ok.ensures.keeps;
}

pub returns-in-Err-clause-calls : goal.returns-in-Err-clause-calls
returns-in-Err-clause-calls g c = record {
  tells = λ s x m works size.
      let it = for-explain c.args.self.now _ s c.in-Explains.is works.is_for in
      let reads = reads-explain c.args.self.now _ x m c.in-Explains.is works.reads in
      let verdict = c.finish-verdict.ensures.verdict x.judged m reads in
      let line = c.as_slice.result.now in
      let owed = line-written c.args.number c.args.size s x m c.finish-verdict.result line it verdict size
      (c.as_slice.ensures.value ∙ c.line.ensures.line) in
      Delivers-fault _ _ (written_so_far s.job x m) line _ c.in-Err.ensures.bytes
      (ap (λ t. t ++ line) (so_far-explain s.job x m it) ∙ owed);
  cause = c.in-Err.ensures.cause;
  keeps = c.in-Err.ensures.keeps;
}

pub returns-in-Filters-clause-short : goal.returns-in-Filters-clause-short
returns-in-Filters-clause-short g c = λ s x m works size.
    ends-most s c.args.self.now _ c.args.number x m c.in-Filters.is works

pub returns-in-Ok-clause-short : goal.returns-in-Ok-clause-short
returns-in-Ok-clause-short g c = λ s x m works size.
    let it = for-explain c.args.self.now _ s c.in-Explains.is works.is_for in
    let reads = reads-explain c.args.self.now _ x m c.in-Explains.is works.reads in
    let verdict = c.finish-verdict.ensures.verdict x.judged m reads in
    let owed = line-written c.args.number c.args.size s x m c.finish-verdict.result _ it verdict size c.line.ensures.line in
    omega (arith, ap length owed, c.line.ensures.short)

pub returns-in-Err-clause-short : goal.returns-in-Err-clause-short
returns-in-Err-clause-short g c = λ s x m works size.
    let it = for-explain c.args.self.now _ s c.in-Explains.is works.is_for in
    let reads = reads-explain c.args.self.now _ x m c.in-Explains.is works.reads in
    let verdict = c.finish-verdict.ensures.verdict x.judged m reads in
    let owed = line-written c.args.number c.args.size s x m c.finish-verdict.result _ it verdict size c.line.ensures.line in
    omega (arith, ap length owed, c.line.ensures.short)
