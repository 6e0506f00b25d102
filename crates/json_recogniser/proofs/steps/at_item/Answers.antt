use Rattle.std.proofs.Common.{Some, sym, ap, ◌∙◌}
use Rattle.json_recogniser.proofs.ResidualLemmas.{array_at, object_at}
use Rattle.json_recogniser.proofs.steps.at_item.Goals as goal

pub returns-in-Array : goal.returns-in-Array
returns-in-Array c = λ marks text is.
    array_at marks c.at_value.result c.args.c text (sym is ∙ c.in-Some.is ∙ ap Some c.in-Array.is) (c.at_value.ensures marks text)

pub returns-in-Object : goal.returns-in-Object
returns-in-Object c = λ marks text is.
    object_at marks c.at_name.result c.args.c text (sym is ∙ c.in-Some.is ∙ ap Some c.in-Object.is) (λ rest. c.at_name.ensures rest text)
