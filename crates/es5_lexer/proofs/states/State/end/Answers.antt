use Rattle.std.proofs.Common.{true, false, None, [], ◌∷◌, sym, subst, ◌∙◌, ap, is_some}
use Rattle.es5_lexer.specs.Places.{past_slash, ended}
use Rattle.es5_lexer.specs.Residuals.{Ends}
use Rattle.es5_lexer.specs.declared.places.Place.{Place}
use Rattle.es5_lexer.specs.declared.states.State.{State}
use Rattle.es5_lexer.proofs.SlashLemmas.{start_end, line_end, block_end, token_end, slash_end}
use Rattle.es5_lexer.proofs.states.State.end.Goals as goal

pub returns-in-Start-clause-ends : goal.returns-in-Start-clause-ends
returns-in-Start-clause-ends c read newline =
    subst (λ (s : State). Ends s read newline c.args.goal true None) (sym c.in-Start.is) (start_end read newline c.args.goal)

pub returns-in-LineComment-clause-ends : goal.returns-in-LineComment-clause-ends
returns-in-LineComment-clause-ends c read newline =
    subst (λ (s : State). Ends s read newline c.args.goal true None) (sym c.in-LineComment.is) (line_end read newline c.args.goal)

pub returns-in-BlockComment-clause-ends : goal.returns-in-BlockComment-clause-ends
returns-in-BlockComment-clause-ends c read newline =
    subst (λ (s : State). Ends s read newline c.args.goal false None) (sym c.in-BlockComment.is) (block_end _ read newline c.args.goal)

pub returns-in-Slash-clause-ends : goal.returns-in-Slash-clause-ends
returns-in-Slash-clause-ends c read newline =
    let at = c.past_slash.ensures in
    subst (λ (s : State). Ends s read newline c.args.goal c.end_of_token.result.0 c.end_of_token.result.1) (sym c.in-Slash.is)
    (slash_end read newline c.args.goal _ _
    (token_end (past_slash c.args.goal) (47 ∷ []) newline c.args.goal _ _ (c.end_of_token.ensures.whole ∙ ap (λ (p : Place). is_some (ended p)) at) (λ e. c.end_of_token.ensures.kind e ∙ ap ended at)))

pub returns-in-Token-clause-ends : goal.returns-in-Token-clause-ends
returns-in-Token-clause-ends c read newline =
    let e = c.end_of_token-in-Token.ensures in
    subst (λ (s : State). Ends s read newline c.args.goal c.end_of_token-in-Token.result.0 c.end_of_token-in-Token.result.1) (sym c.in-Token.is)
    (token_end _ read newline c.args.goal _ _ e.whole e.kind)
