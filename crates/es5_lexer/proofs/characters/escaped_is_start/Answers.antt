use Rattle.std.proofs.Common.{◌∙◌, sym}
use Rattle.es5_lexer.specs.Characters.{is_start}
use Rattle.es5_lexer.proofs.EscapeLemmas.{escaped-some, escaped-none}
use Rattle.es5_lexer.proofs.characters.escaped_is_start.Goals as goal

pub returns-in-Some : goal.returns-in-Some
returns-in-Some c =
    c.is_start.ensures ∙ escaped-some is_start c.args.a c.args.b c.args.c c.args.d c.in-Some.c (sym c.in-Some.ensures)

pub returns-in-None : goal.returns-in-None
returns-in-None c = escaped-none is_start c.args.a c.args.b c.args.c c.args.d (sym c.in-None.ensures)
