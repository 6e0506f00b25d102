use Rattle.std.proofs.Common.{◌≡◌, true, false, None, sym, subst, ◌∙◌}
use Rattle.es5_lexer.specs.Places.{ended, is_dead, next}
use Rattle.es5_lexer.specs.Residuals.{Steps}
use Rattle.es5_lexer.specs.declared.places.Place.{Place}
use Rattle.es5_lexer.specs.declared.states.State.TheVariants.{Token}
use Rattle.es5_lexer.proofs.StepLemmas.{as_step}
use Rattle.es5_lexer.proofs.TokenSteps.{token_step, open_step}
use Rattle.es5_lexer.proofs.states.in_token.Goals as goal

pub returns-then-not-is_dead-clause-steps : goal.returns-then-not-is_dead-clause-steps
returns-then-not-is_dead-clause-steps c read =
    let live : is_dead (next c.args.place c.args.c) ≡ false = cc in
    as_step _ _ _ _ _ _ _ c.between.ensures
    (subst (λ (x : Place). Steps (Token c.args.place) read c.args.newline c.args.goal c.args.c None (Token x) c.args.newline) (sym c.next-next.ensures) (token_step c.args.place read c.args.newline c.args.goal c.args.c live))

pub returns-in_default-clause-steps : goal.returns-in_default-clause-steps
returns-in_default-clause-steps c read =
    let dead : is_dead (next c.args.place c.args.c) ≡ true = cc in
    let none : ended c.args.place ≡ None = sym c.ended.ensures ∙ c.in_default.is in
    as_step _ _ _ _ _ _ _ c.dead.ensures
    (open_step c.args.place read c.args.newline c.args.goal c.args.c c.before_escape.result dead none)
