use Rattle.std.proofs.Common.{◌≡◌, ◌∙◌, Bool, true, false, not, refl, sym}
use Rattle.es5_trees.specs.Words.{lexeme}
use Rattle.es5_machine.proofs.ExpressionSoundness.{differ}
use Rattle.es5_machine.proofs.Verdicts.{lives_exact}
use Rattle.es5_machine.proofs.machine.Machine.would_live.Goals as goal

not_so : (b : Bool) → not b ≡ true → b ≡ true → ⊥
not_so true h e = differ h
not_so false h e = differ e

so_not : (b : Bool) → (b ≡ true → ⊥) → not b ≡ true
so_not true h = absurd (h refl)
so_not false h = refl

pub returns-clause-exact : goal.returns-clause-exact
returns-clause-exact c m h =
    let e = lives_exact c.args.self.now m (lexeme c.args.token c.args.newline) h in
    (λ t. e.0 (λ d. not_so c.is_dead.result t (c.is_dead.ensures.1 (c.control_after.ensures ∙ d))), λ p. so_not c.is_dead.result (λ d. e.1 p (sym c.control_after.ensures ∙ c.is_dead.ensures.0 d)))
