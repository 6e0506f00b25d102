use Rattle.std.proofs.Common.{codes, refl}
use Rattle.http_exchange.specs.Messages.{field_line}
use Rattle.trial.specs.Trials.{content_type, content_length}
use Rattle.trial.proofs.SourceLemmas.{one_field, three_fields, two_fields_end}
use Rattle.trial.proofs.heads.append_response.Goals as goal

pub returns-in-Javascript : goal.returns-in-Javascript
returns-in-Javascript c = rw (c.in-Javascript.is, c.append_typed.ensures) refl

pub returns-in-Nosniff : goal.returns-in-Nosniff
returns-in-Nosniff c =
    rw (c.in-Nosniff.is, c.append_end.ensures, c.append_field.ensures, c.append_type.ensures, c.append_start.ensures)
    (three_fields c.args.text.now.items (codes "HTTP/1.1 200 OK") (field_line (content_type (codes "text/html")))
    (field_line (codes "X-Content-Type-Options", codes "nosniff")) (field_line (content_length c.args.n)))

pub returns-in-Png : goal.returns-in-Png
returns-in-Png c =
    rw (c.in-Png.is, c.append_end-in-Png.ensures, c.append_start-in-Png.ensures)
    (one_field c.args.text.now.items (codes "HTTP/1.1 200 OK") (field_line (content_length c.args.n)))

pub returns-in-Script : goal.returns-in-Script
returns-in-Script c = rw (c.in-Script.is, c.append_typed-in-Script.ensures) refl

pub returns-in-Json : goal.returns-in-Json
returns-in-Json c = rw (c.in-Json.is, c.append_typed-in-Json.ensures) refl

pub returns-in-Text : goal.returns-in-Text
returns-in-Text c = rw (c.in-Text.is, c.append_typed-in-Text.ensures) refl

pub returns-in-Jpeg : goal.returns-in-Jpeg
returns-in-Jpeg c =
    rw (c.in-Jpeg.is, c.extend.ensures, c.append_field-in-Jpeg.ensures, c.append_type-in-Jpeg.ensures, c.append_start-in-Jpeg.ensures)
    (two_fields_end c.args.text.now.items (codes "HTTP/1.1 200 OK") (field_line (content_type (codes "image/jpeg")))
    (field_line (codes "Transfer-Encoding", codes "chunked")))
