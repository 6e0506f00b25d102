use Rattle.std.proofs.Common.{◌++◌}
use Rattle.orb_io.proofs.ToldLemmas.{IsPrefix-trans}
use Rattle.body_filter.specs.Responses.{output_so_far, whole_output}
use Rattle.body_filter.proofs.LawLemmas.{prefix-grows, prefix-whole_now}
use Rattle.body_filter.proofs.laws.output_grows.Goals as goal

pub returns : goal.returns
returns c = record {
  prefix = prefix-grows;
  whole = λ x m more.
      IsPrefix-trans (output_so_far x m) (output_so_far x (m ++ more)) (whole_output x (m ++ more)) (prefix-grows x m more)
      (prefix-whole_now x (m ++ more));
}
