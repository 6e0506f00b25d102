use Rattle.std.proofs.Common.{rules, ◌≡◌, [], sym, ap, ◌∙◌, None, map}
use Rattle.std.specs.Prelude.{slice_get}
use Rattle.std.specs.Option.{option_copied}
use Rattle.signatures.specs.Rows.{image_rows}
use Rattle.signatures.proofs.TableLemmas.{shown, first_match-by_index}
use Rattle.signatures.proofs.images.image_type.Goals as goal

pub returns-in_err-index : goal.returns-in_err-index
unfolding image_rows
returns-in_err-index c =
    c.from_residual.ensures
    ∙ ap (shown image_rows None) (sym c.in_err-index.was)
    ∙ first_match-by_index image_rows [] c.args.window.now c.first_row.result c.first_row.ensures

pub returns : goal.returns
unfolding image_rows
returns c =
    let kind : option_copied c.get.result ≡ slice_get (map (λ row. row.1) image_rows) c.in_ok-index.index = search rules in
    c.copied.ensures ∙ kind
    ∙ ap (shown image_rows None) (sym c.in_ok-index.was)
    ∙ first_match-by_index image_rows [] c.args.window.now c.first_row.result c.first_row.ensures
