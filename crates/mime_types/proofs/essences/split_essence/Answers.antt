use Rattle.std.proofs.Common.{sym, ◌∙◌, inl, inr}
use Rattle.mime_types.proofs.EssenceLemmas.{needs_slash, essence_only, essence_read, essence_none}
use Rattle.mime_types.proofs.essences.split_essence.Goals as goal
use Rattle.mime_types.proofs.essences.split_essence.Goals.{else-is_nonempty_token-via-then-is_nonempty_token+else-is_nonempty_token-2, else-is_nonempty_token-via-else-is_nonempty_token}

pub returns-in_err-main-clause-none : goal.returns-in_err-main-clause-none
returns-in_err-main-clause-none c =
    rw c.from_residual.ensures
    (needs_slash c.args.text.now c.trim_http_ws.result.now c.trim_http_ws.ensures c.in_err-main.ensures.none)

pub returns-then-is_nonempty_token-2-clause-found :
    goal.returns-then-is_nonempty_token-2-clause-found
returns-then-is_nonempty_token-2-clause-found c =
    essence_read c.args.text.now c.trim_http_ws.result.now c.in_ok-main.main.now c.in_ok-main.after.now
    c.split_before.result.0.now c.split_before.result.1.now c.trim_http_ws_end-sub.result.now
    c.trim_http_ws.ensures c.in_ok-main.ensures.cut c.split_before.ensures c.trim_http_ws_end-sub.ensures
    (sym c.is_nonempty_token.ensures ∙ c.if-is_nonempty_token.true)
    (sym c.is_nonempty_token-then-is_nonempty_token.ensures ∙ c.if-is_nonempty_token-2.true)

pub returns-else-is_nonempty_token-clause-none : goal.returns-else-is_nonempty_token-clause-none
returns-else-is_nonempty_token-clause-none c =
    essence_none c.args.text.now c.in_ok-main.main.now c.trim_http_ws_end-sub.result.now
    (λ cut is. essence_only c.args.text.now c.trim_http_ws.result.now c.in_ok-main.main.now c.in_ok-main.after.now
    c.split_before.result.0.now c.split_before.result.1.now c.trim_http_ws_end-sub.result.now cut is
    c.trim_http_ws.ensures c.in_ok-main.ensures.cut c.in_ok-main.ensures.first c.split_before.ensures
    c.trim_http_ws_end-sub.ensures)
    (elim c.else-is_nonempty_token.branch [
      | else-is_nonempty_token-via-then-is_nonempty_token+else-is_nonempty_token-2 w ↦
          inr (sym w.is_nonempty_token-then-is_nonempty_token.ensures ∙ w.if-is_nonempty_token-2.false)
      | else-is_nonempty_token-via-else-is_nonempty_token w ↦
          inl (sym c.is_nonempty_token.ensures ∙ w.if-is_nonempty_token.false)
    ])
