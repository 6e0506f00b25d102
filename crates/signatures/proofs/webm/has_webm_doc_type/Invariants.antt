use Rattle.std.proofs.Common.{◌≡◌, ◌<◌, ℕ, false}
use Rattle.signatures.specs.Webm.{is_webm_offset}
use Rattle.signatures.proofs.webm.has_webm_doc_type.Given as goal

abbrev pub invariant-loop-offset : goal.invariant-loop-offset
invariant-loop-offset l = (k : ℕ) → k < l.offset → is_webm_offset l.window k ≡ false
