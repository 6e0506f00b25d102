use Rattle.std.proofs.Common.{sym, ◌∙◌}
use Rattle.mime_types.proofs.EssenceLemmas.{token_by_length}
use Rattle.mime_types.proofs.scanning.is_nonempty_token.Goals as goal

pub returns-then-not-is_empty : goal.returns-then-not-is_empty
returns-then-not-is_empty c =
    token_by_length c.args.text.now c.are_token_bytes.result c.are_token_bytes.ensures
    (sym c.is_empty.ensures ∙ c.if-not-is_empty.true)
