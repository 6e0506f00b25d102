use Rattle.std.proofs.Common.{codes}
use Rattle.http_exchange.specs.Messages.{field_line}
use Rattle.trial.specs.Trials.{content_type, content_length}
use Rattle.trial.proofs.SourceLemmas.{two_fields}
use Rattle.trial.proofs.heads.append_typed.Goals as goal

pub returns : goal.returns
returns c =
    rw (c.append_end.ensures, c.append_type.ensures, c.append_start.ensures)
    (two_fields c.args.text.now.items (codes "HTTP/1.1 200 OK") (field_line (content_type c.args.essence.now)) (field_line (content_length c.args.n)))
