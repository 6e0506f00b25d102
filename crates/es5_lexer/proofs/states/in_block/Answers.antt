use Rattle.std.proofs.Common.{◌≡◌, Bool, true, false, ◌&&◌, ◌==◌, None, sym, subst}
use Rattle.es5_lexer.specs.Residuals.{Steps}
use Rattle.es5_lexer.specs.declared.states.State.TheVariants.{BlockComment}
use Rattle.es5_lexer.proofs.StepLemmas.{as_step, closing_step, in_block_step}
use Rattle.es5_lexer.proofs.states.in_block.Goals as goal

pub returns-then-closes-clause-steps : goal.returns-then-closes-clause-steps
returns-then-closes-clause-steps c read =
    let e : (c.args.star && (c.args.c == 47)) ≡ true = cc in
    as_step _ _ _ _ _ _ _ c.between.ensures (closing_step c.args.star read c.args.newline c.args.goal c.args.c e)

pub returns-else-closes-clause-steps : goal.returns-else-closes-clause-steps
returns-else-closes-clause-steps c read =
    let e : (c.args.star && (c.args.c == 47)) ≡ false = cc in
    as_step _ _ _ _ _ _ _ c.between-else-closes.ensures
    (subst (λ (x : Bool). Steps (BlockComment c.args.star) read c.args.newline c.args.goal c.args.c None (BlockComment (c.args.c == 42)) x) (sym c.ended_by.ensures) (in_block_step c.args.star read c.args.newline c.args.goal c.args.c e))
