use Rattle.orb_io.proofs.ToldLemmas.{Pushes-untold}
use Rattle.orb_io.proofs.tcp.TcpLinkSink.push.Goals as goal

pub returns-clause-bytes : goal.returns-clause-bytes
returns-clause-bytes g c = Pushes-untold c.counted.result c.args.piece.now
