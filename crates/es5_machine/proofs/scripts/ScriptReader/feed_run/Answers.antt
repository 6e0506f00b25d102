use Rattle.std.proofs.Common.{◌++◌, List, ℕ, take, ap, subst, ◌∙◌, append_assoc}
use Rattle.es5_lexer.specs.declared.tokens.Goal.TheVariants.{Div}
use Rattle.es5_lexer.specs.Texts.{chars}
use Rattle.es5_lexer.proofs.TriviaLemmas.{chars-append}
use Rattle.es5_machine.specs.Scripts.{IsScriptText}
use Rattle.es5_machine.proofs.ScriptLemmas.{marks_of, chars-of, offered-run}
use Rattle.es5_machine.proofs.scripts.ScriptReader.feed_run.Goals as goal

pub returns-clause-reads : goal.returns-clause-reads
returns-clause-reads c u h =
    let run = take c.feed_run.result c.args.piece.now in
    let q = marks_of Div run in
    record {
      alive = λ e.
          let r = h.alive e in
          record {
            marks = r.marks ++ q;
            given = r.given;
            lexer = c.feed_run.ensures.reads r.marks r.given r.lexer q (chars-of Div run);
            offers = record { machine = r.offers.machine; suits = r.offers.suits };
            spells = chars-append r.marks q ∙ ap (λ t. t ++ chars q) r.spells ∙ ap (λ t. u ++ t) (chars-of Div run);
            offered = offered-run r.marks q u run
                (λ p w end tokens is. c.feed_run.ensures.asks r.marks r.given r.lexer p q w is (chars-of Div run) end tokens) r.offered;
          };
      hopeless = λ e more script. h.hopeless e (run ++ more) (subst (λ (t : List ℕ). IsScriptText t) (append_assoc u run more) script);
    }
