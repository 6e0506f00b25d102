use Rattle.std.proofs.Common.{drop, length, ap, arith}
use Rattle.std.proofs.lemmas.List.{nil_from_length}
use Rattle.std.proofs.lemmas.Bool.Decides.{nat_tests}
use Rattle.es5_lexer.proofs.NextLemmas.{only_trivia, passes_at}
use Rattle.es5_lexer.proofs.next.rest_is_trivia.Goals as goal

pub returns : goal.returns
returns c g =
    let e = c.after_trivia.ensures in
    let o = only_trivia g (drop c.args.place c.args.text.now) _ _ (passes_at _ _ _ _ c.after.ensures e.passes) e.ends in
    (λ t. o.goes (nil_from_length c.after_trivia.result.1.now (grind (arith, nat_tests))), λ h. let n = ap length (o.comes h) in grind (arith, nat_tests))
