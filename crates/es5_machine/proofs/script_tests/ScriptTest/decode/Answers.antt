use Rattle.std.proofs.Common.{◌++◌, ℕ, List, subst}
use Rattle.es5_machine.specs.ScriptReading.{ReaderHasRead}
use Rattle.es5_machine.proofs.script_tests.ScriptTest.decode.Goals as goal

pub returns-clause-reads : goal.returns-clause-reads
returns-clause-reads c m reads = record {
  text = reads.text ++ c.feed_byte-characters.result.items;
  decoder = c.feed_byte-characters.ensures.reads m reads.text reads.decoder;
  reader = subst (λ (t : List ℕ). ReaderHasRead c.feed_all.new.self (reads.text ++ t)) c.as_slice.ensures.value
      (c.feed_all.ensures.reads reads.text reads.reader);
}
