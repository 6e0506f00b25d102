use Rattle.std.proofs.Common.{refl, ap, ◌∙◌}
use Rattle.header_values.specs.Fields.{pairs_in}
use Rattle.response_rules.specs.Facts.{groups_of}
use Rattle.response_rules.proofs.EssenceLemmas.{one_essence}
use Rattle.response_rules.proofs.facts.Facts.read.Goals as goal

pub returns-clause-facts : goal.returns-clause-facts
returns-clause-facts c = λ essence states.
    let (read, read_states, groups) = c.read_groups.ensures.groups in
    let same = groups ∙ ap groups_of (one_essence (pairs_in c.args.fields.now) read essence read_states states) in
    record {
      states = states;
      are = rw (c.nosniff.ensures.value, c.coded.ensures.value, c.is_first.ensures, c.length_in.ensures, c.stated_range-range.ensures.value, same) refl;
    }
