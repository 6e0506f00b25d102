use Rattle.std.proofs.Common.{[], ◌∷◌, subst, arith}
use Rattle.std.proofs.lemmas.Bool.Decides.{nat_tests}
use Rattle.es5_lexer.specs.Residuals.{Steps}
use Rattle.es5_lexer.specs.declared.places.Place.{Place}
use Rattle.es5_lexer.specs.declared.states.State.TheVariants.{Token}
use Rattle.es5_lexer.proofs.SlashLemmas.{comment_line_step, comment_block_step, slash_token_step}
use Rattle.es5_lexer.proofs.states.past_slash.Goals as goal

pub returns-then-c-eq47-clause-steps : goal.returns-then-c-eq47-clause-steps
returns-then-c-eq47-clause-steps c read =
    comment_line_step read c.args.newline c.args.goal c.args.c (grind (arith, nat_tests))

pub returns-then-c-eq42-clause-steps : goal.returns-then-c-eq42-clause-steps
returns-then-c-eq42-clause-steps c read =
    comment_block_step read c.args.newline c.args.goal c.args.c (grind (arith, nat_tests))

pub returns-else-c-eq42-clause-steps : goal.returns-else-c-eq42-clause-steps
returns-else-c-eq42-clause-steps c read =
    slash_token_step read c.args.newline c.args.goal c.args.c _ _ _ (grind (arith, nat_tests)) (grind (arith, nat_tests))
    (subst (λ (x : Place). Steps (Token x) (47 ∷ []) c.args.newline c.args.goal c.args.c c.in_token.result.given c.in_token.result.state c.in_token.result.newline) c.past_slash.ensures (c.in_token.ensures.steps (47 ∷ [])))
