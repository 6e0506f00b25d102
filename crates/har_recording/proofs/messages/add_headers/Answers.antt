use Rattle.std.proofs.Common.{◌++◌, ◌<◌, length, arith, ap, ap₂, ◌∙◌, sym}
use Rattle.std.proofs.lemmas.List.{drop_more, drop_all}
use Rattle.http_exchange.specs.Messages.{field_line}
use Rattle.har_recording.proofs.HeaderLemmas.{lines-are, step_kept, step_dropped, step_last}
use Rattle.har_recording.proofs.messages.add_headers.Goals as goal
use Rattle.har_recording.proofs.messages.add_headers.Goals.{then-is_kept+in_ok-add_field, else-is_kept}

pub headers-preserved : goal.headers-preserved
headers-preserved c =
    let h : c.headers.header-index < length c.args.headers.now = omega arith in
    elim c.if-is_kept.branch [
      | then-is_kept+in_ok-add_field w ↦
          step_kept _ c.headers.recording.items _ _ _ _ c.headers.invariant
          (drop_more c.args.headers.now c.headers.header-index _ h) (sym w.if-is_kept.ensures)
          (ap (λ v. v.items) w.recording-is
          ∙ w.in_ok-add_field.ensures
          ∙ ap₂ (λ name value. c.headers.recording.items ++ field_line (name, value)) w.as_bytes.ensures.value
          w.as_bytes-then-is_kept.ensures.value)
      | else-is_kept w ↦
          step_dropped _ c.headers.recording.items _ _ _ _ c.headers.invariant
          (drop_more c.args.headers.now c.headers.header-index _ h) (sym w.if-is_kept.ensures)
          (ap (λ v. v.items) w.recording-is)
    ]

pub returns : goal.returns
returns c =
    step_last _ _ _ c.headers.invariant (drop_all c.headers.header-index c.args.headers.now c.headers-test.false)
    ∙ ap (λ w. c.args.recording.now.items ++ w) (lines-are c.args.headers.now)
