use Rattle.text_stream.specs.Decoder.{CanDecode}
use Rattle.text_stream.proofs.decoder.tests.decoded.Given as goal

abbrev pub invariant-bytes : goal.invariant-bytes
invariant-bytes l = CanDecode l.decoder
