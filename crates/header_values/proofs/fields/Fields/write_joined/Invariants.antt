use Rattle.std.proofs.Common.{◌≤◌, vec_capacity}
use Rattle.header_values.proofs.JoinLemmas.{WrittenTo}
use Rattle.header_values.proofs.fields.Fields.write_joined.Given as goal

abbrev pub invariant-loop-span : goal.invariant-loop-span
invariant-loop-span l = record {
  so_far : WrittenTo l.self.head.now l.span-items l.name l.span-index l.found l.text.items;
  room : vec_capacity l.initial.text ≤ vec_capacity l.text;
}
