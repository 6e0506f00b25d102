use Rattle.std.proofs.Common.{◌≡◌, ◌++◌, drop}
use Rattle.har_recording.proofs.HeaderLemmas.{lines}
use Rattle.har_recording.proofs.messages.add_headers.Given as goal

abbrev pub invariant-headers : goal.invariant-headers
invariant-headers l = l.recording.items ++ lines (drop l.header-index l.headers) ≡ l.fn.recording.items ++ lines l.headers
