use Rattle.orb_engine.proofs.CompleteLemmas.{prefix_is_all, run_is_complete}
use Rattle.orb_engine.proofs.laws.completeness.Goals as goal

pub returns : goal.returns
returns c = record { prefixes = prefix_is_all; runs = run_is_complete }
