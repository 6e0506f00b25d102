use Rattle.memchr.specs.Find.{is_byte2}
use Rattle.mime_types.proofs.SpanLemmas.{first_byte_spans}
use Rattle.mime_types.proofs.scanning.split_name.Goals as goal

pub returns : goal.returns
returns c =
    rw (c.split_at.ensures.front, c.split_at.ensures.back, c.unwrap_or-place.ensures)
    (first_byte_spans (is_byte2 59 61) c.args.text.now c.memchr2.result c.memchr2.ensures)
