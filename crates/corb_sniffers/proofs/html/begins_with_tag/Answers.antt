use Rattle.std.proofs.Common.{◌∙◌, sym, ◌≡◌}
use Rattle.std.specs.List.{list_any}
use Rattle.corb_sniffers.specs.Html.{tags}
use Rattle.corb_sniffers.proofs.TagLemmas.{is_tag_at, tag_to, tag_from}
use Rattle.corb_sniffers.proofs.html.begins_with_tag.Goals as goal

pub returns : goal.returns
returns c =
    let text = c.args.text.now in
    let same : c.begins_with_row.result ≡ list_any (is_tag_at text) tags = c.begins_with_row.ensures in
    (λ is. tag_to text (λ k. (c.type_inv.text k).fits) (sym same ∙ is), λ h. same ∙ tag_from text (λ k. (c.type_inv.text k).fits) h)
