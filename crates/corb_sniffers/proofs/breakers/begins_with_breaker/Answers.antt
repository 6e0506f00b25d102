use Rattle.std.proofs.Common.{◌≡◌, ◌∙◌, sym, ap}
use Rattle.std.specs.Prelude.{is_some}
use Rattle.std.specs.List.{list_any}
use Rattle.orb_bytes.specs.Rows.{begins_masked}
use Rattle.corb_sniffers.specs.Breakers.{breakers}
use Rattle.corb_sniffers.proofs.TextLemmas.{exact_mask, some_position, breaker_to, breaker_from}
use Rattle.corb_sniffers.proofs.breakers.begins_with_breaker.Goals as goal

pub returns : goal.returns
returns c =
    let text = c.args.text.now in
    let same : c.is_some.result ≡ list_any (λ name. begins_masked name (exact_mask name) text) breakers =
    c.is_some.ensures ∙ ap is_some c.first_row.ensures ∙ some_position (λ name. begins_masked name (exact_mask name) text) breakers in
    (λ is. breaker_to text (λ k. (c.type_inv.text k).fits) (sym same ∙ is), λ h. same ∙ breaker_from text (λ k. (c.type_inv.text k).fits) h)
