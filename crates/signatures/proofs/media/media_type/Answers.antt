use Rattle.std.proofs.Common.{rules, ◌≡◌, None, Some, take, drop, map, sym, ap, ◌∙◌}
use Rattle.std.specs.Prelude.{slice_get}
use Rattle.std.specs.Option.{option_copied}
use Rattle.signatures.specs.declared.media.MediaType.TheVariants as media
use Rattle.signatures.specs.Rows.{media_rows, first_match}
use Rattle.signatures.proofs.TableLemmas.{shown, first_match-by_index}
use Rattle.signatures.proofs.media.media_type.Goals as goal

pub returns-in-Some : goal.returns-in-Some
unfolding media_rows
returns-in-Some c =
    let kind : option_copied c.get.result ≡ slice_get (map (λ row. row.1) (take 6 media_rows)) c.in-Some.index = search rules in
    c.copied.ensures ∙ kind
    ∙ ap (shown (take 6 media_rows) (first_match (drop 6 media_rows) c.args.window.now)) (sym c.in-Some.is)
    ∙ first_match-by_index (take 6 media_rows) (drop 6 media_rows) c.args.window.now c.first_row.result c.first_row.ensures

pub returns-then-is_mp4 : goal.returns-then-is_mp4
unfolding media_rows
returns-then-is_mp4 c =
    let rest : Some media.Mp4 ≡ first_match (drop 6 media_rows) c.args.window.now = search rules in
    rest
    ∙ ap (shown (take 6 media_rows) (first_match (drop 6 media_rows) c.args.window.now)) (sym c.in_default.is)
    ∙ first_match-by_index (take 6 media_rows) (drop 6 media_rows) c.args.window.now c.first_row.result c.first_row.ensures

pub returns-else-is_mp3 : goal.returns-else-is_mp3
unfolding media_rows
returns-else-is_mp3 c =
    let rest : None ≡ first_match (drop 6 media_rows) c.args.window.now = search rules in
    rest
    ∙ ap (shown (take 6 media_rows) (first_match (drop 6 media_rows) c.args.window.now)) (sym c.in_default.is)
    ∙ first_match-by_index (take 6 media_rows) (drop 6 media_rows) c.args.window.now c.first_row.result c.first_row.ensures
