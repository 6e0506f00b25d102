use Rattle.std.proofs.Common.{refl}
use Rattle.header_values.specs.Fields.{pairs_in}
use Rattle.header_values.proofs.ExtractLemmas.{extracted_absent, extracted_by}
use Rattle.header_values.proofs.extraction.extract_essence.Goals as goal

pub returns-in_err-join : goal.returns-in_err-join
returns-in_err-join c =
    let absent = extracted_absent (pairs_in c.args.fields.now) c.in_err-join.ensures.value in
    ((refl, λ _. tt, c.join.follows.holds-at-none), rw c.from_residual.ensures (record { found = tt; none = absent; kept = tt }))

pub returns : goal.returns
returns c =
    let by = extracted_by (pairs_in c.args.fields.now) c.in_ok-join.field-0.now c.last_essence.result c.in_ok-join.ensures.value c.last_essence.ensures in
    ((refl, λ _. tt, c.join.follows.holds-at-none), record { found = by.0; none = by.1; kept = tt })
