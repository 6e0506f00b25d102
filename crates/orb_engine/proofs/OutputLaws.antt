-- What is written of a prefix of a body begins what is written of a longer one.
use Rattle.std.proofs.Common.{ℕ, List, [], ◌++◌}
use Rattle.orb_io.specs.Told.{IsPrefix}
use Rattle.orb_io.proofs.ToldLemmas.{IsPrefix-all, IsPrefix-none, IsPrefix-trans}
use Rattle.body_filter.specs.Responses.{Response, output_so_far, whole_output}
use Rattle.body_filter.proofs.LawLemmas.{prefix-grows, prefix-whole_now}
use Rattle.orb_engine.specs.declared.settings.Job.{Job}
use Rattle.orb_engine.specs.declared.settings.Job.TheVariants.{Filter, Explain}
use Rattle.orb_engine.specs.Outputs.{written_so_far, written_whole}

-- ---- bodies

prefix-whole : (x : Response) (m more : List ℕ) → IsPrefix (output_so_far x m) (whole_output x (m ++ more))
prefix-whole x m more =
    IsPrefix-trans (output_so_far x m) (output_so_far x (m ++ more)) (whole_output x (m ++ more)) (prefix-grows x m more)
    (prefix-whole_now x (m ++ more))

-- ---- the same, by the job

pub written_so_far-grows : (job : Job) (x : Response) (m more : List ℕ) → IsPrefix (written_so_far job x m) (written_so_far job x (m ++ more))
unfolding written_so_far
written_so_far-grows Filter x m more = prefix-grows x m more
written_so_far-grows Explain x m more = IsPrefix-all []

pub written_so_far-whole : (job : Job) (number : ℕ) (x : Response) (m more : List ℕ)
    → IsPrefix (written_so_far job x m) (written_whole job number x (m ++ more))
unfolding written_so_far written_whole
written_so_far-whole Filter number x m more = prefix-whole x m more
written_so_far-whole Explain number x m more = IsPrefix-none _
