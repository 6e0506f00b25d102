use Rattle.std.proofs.Common.{◌≡◌, ◌++◌, codes, nat_eq, sym, ap, ◌∙◌}
use Rattle.std.specs.List.{starts_with}
use Rattle.orb_bytes.specs.Bytes.{is_whitespace_byte}
use Rattle.orb_bytes.specs.Trim.{without_leading}
use Rattle.orb_bytes.proofs.TrimLemmas.{without_leading-append, leading_of}
use Rattle.corb_sniffers.proofs.TextLemmas.{starts_to, starts_from}
use Rattle.corb_sniffers.proofs.xml.sniffs_xml.Goals as goal

pub returns : goal.returns
returns c =
    let window = c.args.window.now in
    let trimmed = without_leading is_whitespace_byte window in
    let same : c.starts_with.result ≡ starts_with nat_eq trimmed (codes "<?xml") =
    c.starts_with.ensures.value ∙ ap (λ t. starts_with nat_eq t (codes "<?xml")) c.trim_whitespace_start.ensures in
    let cut = leading_of is_whitespace_byte window in (
      λ is.
          let begun = starts_to (codes "<?xml") trimmed (sym same ∙ is) in
          record { spaces = cut.0; space = cut.1; rest = begun.0; cut = cut.2 ∙ ap (λ t. cut.0 ++ t) begun.1 },
      λ h. same ∙ ap (λ t. starts_with nat_eq t (codes "<?xml"))
          (ap (without_leading is_whitespace_byte) h.cut ∙ without_leading-append is_whitespace_byte h.spaces (codes "<?xml" ++ h.rest) h.space)
          ∙ starts_from (codes "<?xml") h.rest,
    )
