use Rattle.std.proofs.Common.{take, refl}
use Rattle.json_recogniser.proofs.JsonTestLemmas.{text_read, ascii_read}
use Rattle.json_recogniser.proofs.json_test.JsonTest.feed_ascii.Goals as goal

pub returns-else-is_pending-clause-reads : goal.returns-else-is_pending-clause-reads
returns-else-is_pending-clause-reads c = λ bytes reads.
    let run = take c.take_ascii.result c.args.piece.now in
    text_read c.args.self.now _ bytes run run refl
    (λ before g read. ascii_read c.args.self.now.decoder before g run (c.is_pending.ensures.passes c.if-is_pending.false) c.take_ascii.ensures.ascii read)
    c.take_ascii.ensures.comes reads
