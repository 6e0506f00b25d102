use Rattle.std.proofs.Common.{sym, subst}
use Rattle.es5_lexer.specs.Names.{IsName}
use Rattle.es5_lexer.proofs.TokenLemmas.{longest-left, longest-name}
use Rattle.es5_lexer.proofs.next.token_at.Goals as goal

pub overflow_sub-text : goal.overflow_sub-text
overflow_sub-text c = longest-left c.args.goal c.args.text.now c.in-Some.field-0 (sym c.in-Some.ensures)

pub token_of-requires : goal.token_of-requires
token_of-requires c k =
    subst IsName (sym c.split_at.ensures.front) (longest-name c.args.goal c.args.text.now c.in-Some.field-0 (sym c.in-Some.ensures) k)
