use Rattle.std.proofs.Common.{refl}
use Rattle.std.proofs.lemmas.Result.{err_from_is_err_and}
use Rattle.orb_io.proofs.GivesLemmas.{Gives-of, Delivers-fault}
use Rattle.body_filter.specs.Responses.{output_so_far, whole_output}
use Rattle.body_filter.specs.Reads.{held_in}
use Rattle.body_filter.proofs.OwedLemmas.{ended-is}
use Rattle.body_filter.proofs.filtering.Filter.end.Goals as goal

pub returns-in_err-put-clause-calls : goal.returns-in_err-put-clause-calls
returns-in_err-put-clause-calls g c =
    let err = err_from_is_err_and c.from_residual.result c.from_residual.ensures.1 in
    record {
      tells = λ x m r.
          rw err.1 (Delivers-fault _ _ (output_so_far x m) _ (whole_output x m) c.in_err-put.ensures.puts.bytes
          (ended-is c.args.self.now.phase c.args.self.now _ x m c.finish-verdict.result r.stands r.decides
          (c.finish-verdict.ensures.verdict x.judged m r.decides) refl refl refl));
      cause = rw err.1 c.in_err-put.ensures.puts.cause;
      keeps = c.in_err-put.ensures.puts.keeps;
    }

pub returns-clause-calls : goal.returns-clause-calls
returns-clause-calls g c = record {
  tells = λ x m r.
      let verdict = c.finish-verdict.ensures.verdict x.judged m r.decides in
      Gives-of _ _ (output_so_far x m) _ _ c.in_ok-put.ensures.puts.bytes (
        ended-is c.args.self.now.phase c.args.self.now _ x m c.finish-verdict.result r.stands r.decides verdict refl refl refl,
        verdict,
      );
  cause = c.in_ok-put.ensures.puts.cause;
  keeps = c.in_ok-put.ensures.puts.keeps;
}

pub returns-clause-empty : goal.returns-clause-empty
unfolding held_in
returns-clause-empty g c = refl
