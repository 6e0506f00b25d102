use Rattle.memchr.specs.Find.{is_byte}
use Rattle.mime_types.proofs.SpanLemmas.{first_byte_spans}
use Rattle.mime_types.proofs.scanning.split_before.Goals as goal

pub returns : goal.returns
returns c =
    rw (c.split_at.ensures.front, c.split_at.ensures.back, c.unwrap_or-place.ensures)
    (first_byte_spans (is_byte c.args.stop) c.args.text.now c.memchr.result c.memchr.ensures)
