use Rattle.std.proofs.Common.{[], refl}
use Rattle.es5_machine.proofs.ScriptLemmas.{none-read}
use Rattle.es5_machine.proofs.scripts.ScriptReader.new.Goals as goal

pub returns : goal.returns
returns c = record {
  alive = λ e. record {
    marks = [];
    given = [];
    lexer = c.new.ensures;
    offers = record {
      machine = c.new-machine.ensures;
      suits = λ tokens program. c.goal.ensures.suits [] tokens c.new-machine.ensures program;
    };
    spells = refl;
    offered = none-read;
  };
  hopeless = λ e. absurd (cc e);
}
