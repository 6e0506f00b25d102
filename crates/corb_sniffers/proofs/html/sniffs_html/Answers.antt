use Rattle.std.proofs.Common.{[], refl}
use Rattle.corb_sniffers.proofs.HtmlLemmas.{tag_first}
use Rattle.corb_sniffers.proofs.html.sniffs_html.Goals as goal

pub returns : goal.returns
returns c =
    let rest = c.after_pieces.result.now in
    let is = c.after_pieces.ensures in (
      λ yes_it_is. is.alike.1 (record { pieces = []; good = tt; rest = rest; cut = refl; tag = c.begins_with_tag.ensures.0 yes_it_is }),
      λ h. c.begins_with_tag.ensures.1 (tag_first rest is.no_space is.no_comment (is.alike.0 h)),
    )
