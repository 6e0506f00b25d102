use Rattle.std.proofs.Common.{◌++◌, take}
use Rattle.es5_machine.proofs.ScriptTestLemmas.{passes}
use Rattle.es5_machine.proofs.script_tests.ScriptTest.feed_run.Goals as goal

pub returns-else-is_pending-clause-reads : goal.returns-else-is_pending-clause-reads
returns-else-is_pending-clause-reads c m reads =
    let run = take c.feed_run.result c.args.piece.now in
    record {
      text = reads.text ++ run;
      decoder = passes c.args.self.now.decoder m reads.text run (c.is_pending.ensures.passes c.if-is_pending.false) c.feed_run.ensures.ascii reads.decoder;
      reader = c.feed_run.ensures.reads reads.text reads.reader;
    }
