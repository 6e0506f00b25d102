use Rattle.std.proofs.Common.{codes}
use Rattle.http_exchange.specs.Messages.{field_line}
use Rattle.trial.specs.Trials.{content_type, content_length, whole_range}
use Rattle.trial.proofs.SourceLemmas.{three_fields}
use Rattle.trial.proofs.heads.append_range.Goals as goal

pub returns : goal.returns
returns c =
    rw (c.append_end.ensures, c.append_field.ensures, c.as_slice.ensures.value, c.whole_range.ensures, c.append_type.ensures, c.append_start.ensures)
    (three_fields c.args.text.now.items (codes "HTTP/1.1 206 Partial Content") (field_line (content_type (codes "video/ogg")))
    (field_line (codes "Content-Range", whole_range c.args.n)) (field_line (content_length c.args.n)))
