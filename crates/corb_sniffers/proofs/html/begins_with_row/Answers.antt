use Rattle.std.proofs.Common.{take, drop, sym, ◌∙◌, arith}
use Rattle.std.specs.List.{list_any}
use Rattle.std.proofs.lemmas.Bool.{and_left, and_right}
use Rattle.orb_bytes.specs.Rows.{is_just_matched}
use Rattle.corb_sniffers.specs.HtmlReading.{begins_ending}
use Rattle.corb_sniffers.proofs.RowLemmas.{ended_row, no_ended_row, ending_at}
use Rattle.corb_sniffers.proofs.html.begins_with_row.Goals as goal
use Rattle.corb_sniffers.proofs.html.begins_with_row.Goals.{else-just_whole-via-then-just_whole+else-is_tag_end, else-just_whole-via-else-just_whole}

pub returns-then-is_tag_end : goal.returns-then-is_tag_end
returns-then-is_tag_end c =
    let text = c.args.text.now in
    let rows = c.args.rows.now in
    let n = c.loop-b.b-index in
    sym (ended_row rows text n (sym (c.just_whole.ensures rows (take n text) c.loop-b.invariant.reads) ∙ c.if-just_whole.true)
    (ending_at text n c.loop-b-test.true ∙ sym c.is_tag_end.ensures ∙ c.if-is_tag_end.true))

pub returns-then-not-is_open : goal.returns-then-not-is_open
returns-then-not-is_open c =
    let text = c.args.text.now in
    let rows = c.args.rows.now in
    let n = c.loop-b.b-index in
    let reads = c.loop-b.invariant.reads in
    sym (no_ended_row rows text n c.loop-b.invariant.none
    (λ below. sym (c.is_open.ensures rows (take n text) reads) ∙ c.if-not-is_open.true)
    (λ below. elim c.else-just_whole.branch [
      | else-just_whole-via-then-just_whole+else-is_tag_end w ↦
          and_right (list_any (is_just_matched (take n text)) rows) (begins_ending (drop n text))
          (ending_at text n below ∙ sym w.is_tag_end.ensures ∙ w.if-is_tag_end.false)
      | else-just_whole-via-else-just_whole w ↦
          and_left (list_any (is_just_matched (take n text)) rows) (begins_ending (drop n text))
          (sym (c.just_whole.ensures rows (take n text) reads) ∙ w.if-just_whole.false)
    ]))

pub returns : goal.returns
returns c = sym (no_ended_row c.args.rows.now c.args.text.now c.loop-b.b-index c.loop-b.invariant.none
    (λ below. absurd (omega (arith, c.loop-b-test.false))) (λ below. absurd (omega (arith, c.loop-b-test.false))))
