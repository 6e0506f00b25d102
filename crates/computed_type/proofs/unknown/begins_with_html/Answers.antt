use Rattle.std.proofs.Common.{sym, ◌∙◌}
use Rattle.computed_type.proofs.RuleLemmas.{html_is}
use Rattle.computed_type.proofs.unknown.begins_with_html.Goals as goal

pub returns-else-begins_with_comment : goal.returns-else-begins_with_comment
returns-else-begins_with_comment c =
    html_is c.args.window.now c.trim_whitespace_start-text.result.now c.begins_with_tag.result c.trim_whitespace_start-text.ensures
    (sym c.begins_with_comment.ensures ∙ c.if-begins_with_comment.false) c.begins_with_tag.ensures
