use Rattle.std.proofs.Common.{◌≡◌, drop}
use Rattle.serde_json.specs.View.{items_view}
use Rattle.har_recording.specs.Log.{all_of, header_of}
use Rattle.har_recording.specs.Seen.{headers_in}
use Rattle.har_recording.proofs.EachLemmas.{after}
use Rattle.har_recording.proofs.entries.read_each.Given as goal

abbrev pub invariant-headers : goal.invariant-headers
invariant-headers l =
    all_of header_of (items_view l.headers) ≡ after (headers_in l.read.items) (all_of header_of (items_view (drop l.value-index l.headers)))
