use Rattle.std.proofs.Common.{◌++◌, ◌∷◌, [], arith}
use Rattle.es5_machine.proofs.script_tests.ScriptTest.read_byte.Goals as goal

pub returns-then-not-is_pending-clause-reads : goal.returns-then-not-is_pending-clause-reads
returns-then-not-is_pending-clause-reads c m reads = record {
  text = reads.text ++ (c.args.b ∷ []);
  decoder = c.is_pending.ensures.passes c.if-not-is_pending.true m reads.text c.args.b (omega (arith, c.if-b-lt128.true)) reads.decoder;
  reader = c.feed_char.ensures.reads reads.text reads.reader;
}
