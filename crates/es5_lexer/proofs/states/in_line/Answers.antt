use Rattle.std.proofs.Common.{◌≡◌, true, false}
use Rattle.es5_lexer.specs.Characters.{is_line_end}
use Rattle.es5_lexer.proofs.StepLemmas.{as_step, line_end_step, in_line_step}
use Rattle.es5_lexer.proofs.states.in_line.Goals as goal

pub returns-then-is_line_end-clause-steps : goal.returns-then-is_line_end-clause-steps
returns-then-is_line_end-clause-steps c read =
    let e : is_line_end c.args.c ≡ true = cc in
    as_step _ _ _ _ _ _ _ c.between.ensures (line_end_step read c.args.newline c.args.goal c.args.c e)

pub returns-else-is_line_end-clause-steps : goal.returns-else-is_line_end-clause-steps
returns-else-is_line_end-clause-steps c read =
    let e : is_line_end c.args.c ≡ false = cc in
    as_step _ _ _ _ _ _ _ c.between-else-is_line_end.ensures (in_line_step read c.args.newline c.args.goal c.args.c e)
