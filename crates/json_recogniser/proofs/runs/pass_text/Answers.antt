use Rattle.std.proofs.Common.{◌≡◌, ◌+◌, ◌++◌, ◌∷◌, [], take, drop, length, length-drop, refl, sym, ap, ◌∙◌, append_assoc, arith}
use Rattle.std.specs.Char.{is_ascii}
use Rattle.std.proofs.lemmas.List.{take_more}
use Rattle.json_recogniser.specs.declared.states.State.TheVariants as state
use Rattle.json_recogniser.specs.Residuals.{residual}
use Rattle.json_recogniser.proofs.ResidualLemmas.{text_ends}
use Rattle.json_recogniser.proofs.RunLemmas.{plain_ascii, plain_text, text_run, take_then, ascii_more}
use Rattle.json_recogniser.proofs.runs.pass_text.Goals as goal
use Rattle.json_recogniser.proofs.runs.pass_text.Goals.{After-after_text-state}

-- the run and the quotation mark
with_quote : (c : After-after_text-state) → take (c.plain_length-run.result + 1) c.args.piece.now ≡ take c.plain_length-run.result c.args.piece.now ++ 0x22 ∷ []
with_quote c =
    take_more c.args.piece.now c.plain_length-run.result 0 c.if-run-piece.true
    ∙ ap (λ b. take c.plain_length-run.result c.args.piece.now ++ b ∷ []) c.if-piece-run-eq34.true

-- these and what is read after them
with_more : (c : After-after_text-state) → take (c.plain_length-run.result + 1 + c.after_text-state.result.1) c.args.piece.now
    ≡ (take c.plain_length-run.result c.args.piece.now ++ 0x22 ∷ []) ++ take c.after_text-state.result.1 c.split_at.result.1.now
with_more c =
    take_then (c.plain_length-run.result + 1) c.after_text-state.result.1 c.args.piece.now
    ∙ ap (λ t. t ++ take c.after_text-state.result.1 (drop (c.plain_length-run.result + 1) c.args.piece.now)) (with_quote c)
    ∙ ap (λ t. (take c.plain_length-run.result c.args.piece.now ++ 0x22 ∷ []) ++ take c.after_text-state.result.1 t) (sym c.split_at.ensures.back)

pub returns-then-piece-run-eq34-clause-within : goal.returns-then-piece-run-eq34-clause-within
returns-then-piece-run-eq34-clause-within c =
    let long = ap length c.split_at.ensures.back in
    omega (arith, c.after_text-state.ensures.within, long, c.if-run-piece.true, length-drop (c.plain_length-run.result + 1) c.args.piece.now)

pub returns-then-piece-run-eq34-clause-ascii : goal.returns-then-piece-run-eq34-clause-ascii
returns-then-piece-run-eq34-clause-ascii c =
    let run = take c.plain_length-run.result c.args.piece.now in
    rw (with_more c) (ascii_more is_ascii (run ++ 0x22 ∷ []) _ (ascii_more is_ascii run (0x22 ∷ []) (plain_ascii run c.plain_length-run.ensures.plain) refl) c.after_text-state.ensures.ascii)

pub returns-then-piece-run-eq34-clause-goes : goal.returns-then-piece-run-eq34-clause-goes
returns-then-piece-run-eq34-clause-goes c = λ marks text.
    let run = take c.plain_length-run.result c.args.piece.now in
    let more = take c.after_text-state.result.1 c.split_at.result.1.now in
    c.after_text-state.ensures.goes marks text ∙ sym (text_ends c.args.role marks (more ++ text))
    ∙ sym (text_run c.args.role marks run (0x22 ∷ (more ++ text)) (plain_text run c.plain_length-run.ensures.plain))
    ∙ ap (residual (state.Text c.args.role) marks) (sym (append_assoc run (0x22 ∷ []) (more ++ text)) ∙ sym (append_assoc (run ++ 0x22 ∷ []) more text) ∙ ap (λ t. t ++ text) (sym (with_more c)))

pub returns-else-run-piece-clause-ascii : goal.returns-else-run-piece-clause-ascii
returns-else-run-piece-clause-ascii c = plain_ascii (take c.plain_length-run.result c.args.piece.now) c.plain_length-run.ensures.plain

pub returns-else-run-piece-clause-goes : goal.returns-else-run-piece-clause-goes
returns-else-run-piece-clause-goes c = λ marks text.
    let run = take c.plain_length-run.result c.args.piece.now in
    sym (text_run c.args.role marks run text (plain_text run c.plain_length-run.ensures.plain))
