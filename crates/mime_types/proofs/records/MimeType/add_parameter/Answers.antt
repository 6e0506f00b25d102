use Rattle.mime_types.proofs.RecordLemmas.{stored_grows, no_value_new}
use Rattle.mime_types.proofs.records.MimeType.add_parameter.Goals as goal

pub invariant_of-self : goal.invariant_of-self
invariant_of-self c =
    stored_grows c.add_copy.result c.self.inside.main.items c.self.inside.sub.items c.self.inside.parameters.items
    c.add_copy.new.parameters.items c.args.self.now c.args.name.now c.args.value.now
    c.add_copy.ensures.ok c.add_copy.ensures.err c.self.view_is c.self.invariant
    c.requires.name c.requires.value
    (no_value_new c.args.name.now c.args.self.now.parameters c.requires.new)
