-- It is decided which texts are scripts: the machine accepts just the programs, and offers a goal before each token.
use Rattle.std.proofs.Common.{◌≡◌, ℕ, Bool, true, false, List, inl, inr, refl}
use Rattle.es5_lexer.specs.declared.tokens.Lexeme.{Lexeme}
use Rattle.es5_lexer.proofs.DecidedLemmas.{Decision, Programs, HasProgram, decided_text as decided_by}
use Rattle.es5_trees.specs.Programs.{IsProgram}
use Rattle.es5_machine.specs.Steps.{begun, run, accepts, goal_of}
use Rattle.es5_machine.specs.Scripts.{IsScriptText}
use Rattle.es5_machine.proofs.Verdicts.{goal_exact, finish_exact}

decided_program : (tokens : List Lexeme) → Decision (IsProgram tokens)
decided_program tokens = by (accepts (run begun tokens)) refl
  where
    by : (b : Bool) → accepts (run begun tokens) ≡ b → Decision (IsProgram tokens)
    by true e = inl ((finish_exact (run begun tokens) tokens (record { stands = refl })).0 e)
    by false e = inr (λ p. absurd (cc (e, (finish_exact (run begun tokens) tokens (record { stands = refl })).1 p)))

programs : Programs IsProgram
programs = record {
  decided = decided_program;
  goal = λ given. goal_of (run begun given).control;
  suits = λ given tokens program. goal_exact (run begun given) given tokens (goal_of (run begun given).control) refl (record { stands = refl }) program;
}

-- each text is a script or isn't
pub decided_text : (u : List ℕ) → Decision (IsScriptText u)
decided_text u = by (decided_by IsProgram programs u)
  where
    by : Decision (HasProgram IsProgram u) → Decision (IsScriptText u)
    by (inl h) = inl (record { tokens = h.tokens; lexes = h.lexes; program = h.program })
    by (inr none) = inr (λ script. none (record { tokens = script.tokens; lexes = script.lexes; program = script.program }))
