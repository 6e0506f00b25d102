use Rattle.body_filter.proofs.LawLemmas.{so_far-length, output-length}
use Rattle.body_filter.proofs.laws.output_is_short.Goals as goal

pub returns : goal.returns
returns c = record { prefix = so_far-length; whole = output-length }
