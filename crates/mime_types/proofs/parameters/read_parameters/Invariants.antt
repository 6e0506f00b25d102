use Rattle.std.proofs.Common.{◌≡◌, true, length}
use Rattle.mime_types.specs.Spans.{begins_outside}
use Rattle.mime_types.specs.Mime.{is_no_semicolon}
use Rattle.mime_types.specs.Stored.{pairs_in}
use Rattle.mime_types.proofs.KeepingLemmas.{KeepsFor}
use Rattle.mime_types.proofs.parameters.read_parameters.Given as goal

abbrev pub invariant-segments : goal.invariant-segments
invariant-segments l =
    (begins_outside is_no_semicolon l.rest ≡ true) × KeepsFor l.text (pairs_in l.kept.items) l.rest

abbrev pub decreases-segments : goal.decreases-segments
decreases-segments l = length l.rest
