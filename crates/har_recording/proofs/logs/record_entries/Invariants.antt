use Rattle.std.proofs.Common.{◌≡◌, ◌+◌, drop}
use Rattle.serde_json.specs.View.{items_view}
use Rattle.har_recording.specs.Recorded.{recording_from}
use Rattle.har_recording.proofs.EntriesLemmas.{after}
use Rattle.har_recording.proofs.logs.record_entries.Given as goal

abbrev pub invariant-entries : goal.invariant-entries
invariant-entries l =
    recording_from 1 (items_view l.entries) ≡ after l.recording.items (recording_from (l.index + 1) (items_view (drop l.index l.entries)))
