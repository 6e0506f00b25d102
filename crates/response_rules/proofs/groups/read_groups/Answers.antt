use Rattle.std.proofs.Common.{Some}
use Rattle.mime_types.specs.Sets.{main_of, sub_of}
use Rattle.response_rules.proofs.groups.read_groups.Goals as goal

pub returns-in-Some-clause-groups : goal.returns-in-Some-clause-groups
returns-in-Some-clause-groups c = (
  Some (main_of c.in-Some.essence, sub_of c.in-Some.essence),
  c.in-Some.ensures.found,
  c.groups_of.ensures,
)
