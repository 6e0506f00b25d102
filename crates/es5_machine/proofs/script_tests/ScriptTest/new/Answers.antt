use Rattle.std.proofs.Common.{[], refl}
use Rattle.es5_machine.proofs.script_tests.ScriptTest.new.Goals as goal

pub returns : goal.returns
returns c = record {
  first = [];
  others = [];
  is = refl;
  reads = record { text = []; decoder = c.new.ensures.reads; reader = c.new-2.ensures };
  all = λ e. refl;
}
