use Rattle.std.proofs.Common.{Err, ap}
use Rattle.header_values.proofs.RunLemmas.{kept_mime, no_mime}
use Rattle.header_values.proofs.extraction.kept_mime.Goals as goal

pub returns-in-Ok : goal.returns-in-Ok
returns-in-Ok c = rw c.unless_any.ensures (kept_mime _ c.in-Ok.mime c.in-Ok.ensures.found)

pub returns-in-Err-NotMime : goal.returns-in-Err-NotMime
returns-in-Err-NotMime c = no_mime _ (c.in-Err-NotMime.ensures.not_mime.0 (ap Err c.in-Err-NotMime.field-0-is))
