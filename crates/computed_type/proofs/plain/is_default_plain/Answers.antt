use Rattle.std.proofs.Common.{◌∙◌, codes}
use Rattle.orb_bytes.specs.Fields.{values_of}
use Rattle.header_values.specs.Fields.{pairs_in}
use Rattle.computed_type.specs.Plain.{default_values}
use Rattle.computed_type.proofs.PlainLemmas.{default_joined}
use Rattle.computed_type.proofs.plain.is_default_plain.Goals as goal

pub returns-in-Some-clause-value : goal.returns-in-Some-clause-value
unfolding default_values
returns-in-Some-clause-value c =
    c.is_one_of.ensures
    ∙ default_joined (values_of (pairs_in c.args.fields.now) (codes "Content-Type")) c.in-Some.value.now c.in-Some.ensures.value
