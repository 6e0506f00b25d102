use Rattle.std.proofs.Common.{◌∙◌, drop, sym}
use Rattle.es5_lexer.proofs.NextLemmas.{found_next, none_next, passes_at}
use Rattle.es5_lexer.proofs.next.next_token.Goals as goal

pub returns-in_default-clause-none : goal.returns-in_default-clause-none
returns-in_default-clause-none c =
    let e = c.after_trivia-newline.ensures in
    none_next c.args.goal (drop c.args.place c.args.text.now) _ _ (passes_at _ _ _ _ c.after.ensures e.passes) e.ends (sym c.token_at.ensures.value ∙ c.in_default.is)

pub overflow_sub-result : goal.overflow_sub-result
overflow_sub-result c =
    let e = c.after_trivia-newline.ensures in
    (found_next c.args.goal c.args.text.now c.args.place _ _ _ _ (passes_at _ _ _ _ c.after.ensures e.passes) (sym c.in-Some.ensures.value)).few

pub returns-clause-found : goal.returns-clause-found
returns-clause-found c =
    let e = c.after_trivia-newline.ensures in
    (found_next c.args.goal c.args.text.now c.args.place _ _ _ _ (passes_at _ _ _ _ c.after.ensures e.passes) (sym c.in-Some.ensures.value)).is
