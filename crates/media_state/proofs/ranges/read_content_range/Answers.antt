use Rattle.std.proofs.Common.{rules}
use Rattle.media_state.specs.Range.{range_of}
use Rattle.media_state.proofs.RangeLemmas.{range_found, range_none}
use Rattle.media_state.proofs.ranges.read_content_range.Goals as goal

pub returns-then-eq_ignore_case-clause-value : goal.returns-then-eq_ignore_case-clause-value
unfolding range_of
returns-then-eq_ignore_case-clause-value c = search rules

pub returns-then-eq_ignore_case-clause-range : goal.returns-then-eq_ignore_case-clause-range
returns-then-eq_ignore_case-clause-range c =
    range_found c.args.value.now c.make_range.result (returns-then-eq_ignore_case-clause-value c)

pub returns-then-eq_ignore_case-clause-none : goal.returns-then-eq_ignore_case-clause-none
returns-then-eq_ignore_case-clause-none c =
    range_none c.args.value.now c.make_range.result (returns-then-eq_ignore_case-clause-value c)

pub returns-else-eq_ignore_case-clause-value : goal.returns-else-eq_ignore_case-clause-value
unfolding range_of
returns-else-eq_ignore_case-clause-value c = search rules

pub returns-else-eq_ignore_case-clause-none : goal.returns-else-eq_ignore_case-clause-none
returns-else-eq_ignore_case-clause-none c =
    range_none c.args.value.now _ (returns-else-eq_ignore_case-clause-value c)
