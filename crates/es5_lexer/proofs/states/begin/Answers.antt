use Rattle.std.proofs.Common.{◌≡◌, true, false, None, sym, subst, arith}
use Rattle.std.proofs.lemmas.Bool.Decides.{nat_tests}
use Rattle.es5_lexer.specs.Characters.{is_line_end, is_space}
use Rattle.es5_lexer.specs.Residuals.{Steps}
use Rattle.es5_lexer.specs.declared.places.Place.{Place}
use Rattle.es5_lexer.specs.declared.states.State.TheVariants.{Start, Token}
use Rattle.es5_lexer.proofs.StepLemmas.{line_step, space_step, slash_step, first_step}
use Rattle.es5_lexer.proofs.states.begin.Goals as goal

pub returns-then-is_line_end-clause-steps : goal.returns-then-is_line_end-clause-steps
returns-then-is_line_end-clause-steps c read =
    let e : is_line_end c.args.c ≡ true = cc in line_step read c.args.newline c.args.goal c.args.c e

pub returns-then-is_space-clause-steps : goal.returns-then-is_space-clause-steps
returns-then-is_space-clause-steps c read =
    let e : is_line_end c.args.c ≡ false = cc in
    let f : is_space c.args.c ≡ true = cc in space_step read c.args.newline c.args.goal c.args.c e f

pub returns-then-c-eq47-clause-steps : goal.returns-then-c-eq47-clause-steps
returns-then-c-eq47-clause-steps c read = slash_step read c.args.newline c.args.goal c.args.c (grind (arith, nat_tests))

pub returns-else-c-eq47-clause-steps : goal.returns-else-c-eq47-clause-steps
returns-else-c-eq47-clause-steps c read =
    let e : is_line_end c.args.c ≡ false = cc in
    let f : is_space c.args.c ≡ false = cc in
    subst (λ (x : Place). Steps Start read c.args.newline c.args.goal c.args.c None (Token x) c.args.newline) (sym c.first.ensures) (first_step read c.args.newline c.args.goal c.args.c e f (grind (arith, nat_tests)))
