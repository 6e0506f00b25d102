use Rattle.std.proofs.Common.{not, ◌&&◌, sym, ap, ◌∙◌}
use Rattle.mime_types.specs.Records.{has_name}
use Rattle.mime_types.specs.Stored.{pairs_in}
use Rattle.mime_types.proofs.StoredLemmas.{has_name_stored}
use Rattle.mime_types.proofs.parameters.counts.Goals as goal

pub returns-then-may_be_parameter : goal.returns-then-may_be_parameter
returns-then-may_be_parameter c =
    ap not (c.has_parameter.ensures ∙ has_name_stored c.args.name.now c.args.kept.now)
    ∙ ap (λ may. may && not (has_name c.args.name.now (pairs_in c.args.kept.now)))
    (sym (sym c.may_be_parameter.ensures ∙ c.if-may_be_parameter.true))
