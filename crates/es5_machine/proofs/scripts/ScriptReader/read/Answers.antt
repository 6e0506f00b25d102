use Rattle.std.proofs.Common.{◌∷◌, [], ◌++◌, List, ap, sym, subst, ◌∙◌}
use Rattle.es5_lexer.specs.Texts.{mark}
use Rattle.es5_lexer.specs.Lexing.{HasRead}
use Rattle.es5_lexer.specs.declared.lexer.Lexer.{Lexer}
use Rattle.es5_lexer.specs.declared.tokens.Lexeme.{Lexeme}
use Rattle.es5_lexer.proofs.TriviaLemmas.{chars-append}
use Rattle.es5_machine.specs.ScriptReading.{Offers}
use Rattle.es5_machine.proofs.ScriptLemmas.{offered-on}
use Rattle.es5_machine.proofs.scripts.ScriptReader.read.Goals as goal

pub returns : goal.returns
returns c u reads =
    let m = mark c.args.self.now.goal c.args.c ∷ [] in
    let given = reads.given ++ c.feed_char.new.out.items in
    record {
      marks = reads.marks ++ m;
      given = given;
      lexer = subst (λ (t : Lexer). HasRead t (reads.marks ++ m) given) (sym c.take.ensures.lexer)
          (c.feed_char.ensures.reads reads.marks reads.given reads.lexer);
      offers = subst (λ (t : List Lexeme). Offers c.take.new.self (reads.given ++ t)) c.as_slice.ensures.value
          (c.take.ensures.reads reads.given (record { machine = reads.offers.machine; suits = reads.offers.suits }));
      spells = chars-append reads.marks m ∙ ap (λ t. t ++ (c.args.c ∷ [])) reads.spells;
      offered = offered-on reads.marks u reads.given c.args.self.now.goal c.args.c
          (c.feed_char.ensures.asks reads.marks reads.given reads.lexer) reads.offers.suits reads.offered;
    }
