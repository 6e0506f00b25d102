use Rattle.std.proofs.Common.{[], sym, ◌∙◌}
use Rattle.es5_lexer.proofs.StepLemmas.{as_step}
use Rattle.es5_lexer.proofs.TokenSteps.{barred_step, end_step}
use Rattle.es5_lexer.proofs.states.past_token.Goals as goal

pub returns-then-bars-clause-steps : goal.returns-then-bars-clause-steps
returns-then-bars-clause-steps c read =
    as_step _ _ _ _ _ _ _ c.dead.ensures (barred_step c.args.place read c.args.newline c.args.goal c.args.c c.args.kind c.requires.dead c.requires.ended (λ u. sym (c.bars.ensures u) ∙ c.if-bars.true))

pub returns-else-bars-clause-steps : goal.returns-else-bars-clause-steps
returns-else-bars-clause-steps c read =
    end_step c.args.place read c.args.newline c.args.goal c.args.c c.args.kind _ _ c.requires.dead c.requires.ended (λ u. sym (c.bars.ensures u) ∙ c.if-bars.false) (c.begin-state.ensures.steps [])
