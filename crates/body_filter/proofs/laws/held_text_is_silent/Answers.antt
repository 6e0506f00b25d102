use Rattle.response_rules.proofs.HopelessLemmas.{text-unsent}
use Rattle.body_filter.proofs.FilterLemmas.{so_far-unsent}
use Rattle.body_filter.proofs.laws.held_text_is_silent.Goals as goal

pub returns : goal.returns
returns c = λ x m text. so_far-unsent x m (text-unsent x.judged m text)
