use Rattle.std.proofs.Common.{◌≡◌, ◌+◌, ◌<◌, length, ap, ◌∙◌, arith, Err}
use Rattle.std.proofs.lemmas.List.{drop_all}
use Rattle.serde_json.specs.View.{view, items_view}
use Rattle.har_recording.specs.Recorded.{recording_from}
use Rattle.har_recording.specs.Seen.{entry_in}
use Rattle.har_recording.proofs.LeftLemmas.{next_of}
use Rattle.har_recording.proofs.EntriesLemmas.{after, none_before, none_left, entry_recorded, entry_refused, not_whole}
use Rattle.har_recording.proofs.logs.record_entries.Goals as goal

pub entries-init : goal.entries-init
entries-init c = rw c.new-recording.ensures.items (none_before _)

pub returns-in-Err-NotWhole-clause-refused : goal.returns-in-Err-NotWhole-clause-refused
returns-in-Err-NotWhole-clause-refused c entry e =
    let h : c.entries.index < length c.args.entries.now = omega arith in
    let same : c.entries.index + 1 ≡ entry = cc in
    entry_refused view _ _ c.index-entries-index.result _ _ _ c.entries.invariant
    (next_of c.args.entries.now c.entries.index c.index-entries-index.result h c.index-entries-index.is)
    (not_whole _ c.in-Err-NotWhole.field-0 c.in-Err-NotWhole.ensures c.in-Err-NotWhole.field-0-is)
    ∙ ap Err same

pub entries-preserved : goal.entries-preserved
entries-preserved c =
    let h : c.entries.index < length c.args.entries.now = omega arith in
    rw c.in_ok-add_entry-in-Ok.ensures
    (entry_recorded view _ _ c.index-entries-index.result (entry_in c.in-Ok.entry) _ _ _ c.entries.invariant
    (next_of c.args.entries.now c.entries.index c.index-entries-index.result h c.index-entries-index.is)
    c.in-Ok.ensures)

pub returns-clause-recording : goal.returns-clause-recording
returns-clause-recording c =
    c.entries.invariant
    ∙ ap (λ left. after c.entries.recording.items (recording_from (c.entries.index + 1) (items_view left)))
    (drop_all c.entries.index c.args.entries.now c.entries-test.false)
    ∙ none_left c.entries.recording.items
