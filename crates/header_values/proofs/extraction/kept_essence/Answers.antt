use Rattle.std.proofs.Common.{sym, ◌∙◌}
use Rattle.header_values.proofs.ExtractLemmas.{kept_none, kept_any, kept_some}
use Rattle.header_values.proofs.extraction.kept_essence.Goals as goal

pub returns-in_err-essence : goal.returns-in_err-essence
returns-in_err-essence c = rw c.from_residual.ensures (kept_none _ c.in_err-essence.ensures.none)

pub returns-then-is_any_type : goal.returns-then-is_any_type
returns-then-is_any_type c =
    kept_any _ c.in_ok-essence.essence c.in_ok-essence.ensures.found (sym c.is_any_type.ensures ∙ c.if-is_any_type.true)

pub returns-else-is_any_type : goal.returns-else-is_any_type
returns-else-is_any_type c =
    kept_some _ c.in_ok-essence.essence c.in_ok-essence.ensures.found (sym c.is_any_type.ensures ∙ c.if-is_any_type.false)
