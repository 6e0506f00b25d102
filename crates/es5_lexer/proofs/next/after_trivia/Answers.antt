use Rattle.std.proofs.Common.{◌∙◌, sym, ap, length, arith}
use Rattle.es5_lexer.proofs.ListLemmas.{last-drop}
use Rattle.es5_lexer.proofs.Choices.{if_true, if_false}
use Rattle.es5_lexer.proofs.PassLemmas.{start, passes_next, trivium_less}
use Rattle.es5_lexer.proofs.next.after_trivia.Goals as goal
use Rattle.es5_lexer.proofs.next.after_trivia.Goals.{then-trivium, else-trivium}

pub trivia-init : goal.trivia-init
trivia-init c = start c.args.text.now

pub last-rest-requires : goal.last-rest-requires
last-rest-requires c =
    omega (arith, trivium_less c.trivia.rest.now c.in-Some.trivium (sym c.in-Some.ensures.value))

pub trivia-smaller : goal.trivia-smaller
trivia-smaller c =
    let less = trivium_less c.trivia.rest.now c.in-Some.trivium (sym c.in-Some.ensures.value) in
    omega (arith, last-drop c.trivia.rest.now c.in-Some.trivium.left (omega arith), ap length c.last-rest.ensures)

pub trivia-preserved : goal.trivia-preserved
trivia-preserved c =
    passes_next c.args.text.now c.trivia.newline c.trivia.rest.now c.in-Some.trivium c.if-trivium.newline c.last-rest.result.now c.trivia.invariant (sym c.in-Some.ensures.value)
    (elim c.if-trivium.branch [
      | then-trivium w ↦ w.newline-is ∙ sym (if_true c.in-Some.trivium.ends_line c.trivia.newline w.if-trivium.true)
      | else-trivium w ↦ w.newline-is ∙ sym (if_false c.in-Some.trivium.ends_line c.trivia.newline w.if-trivium.false)
    ])
    c.last-rest.ensures
