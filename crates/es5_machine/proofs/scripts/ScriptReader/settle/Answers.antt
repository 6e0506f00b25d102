use Rattle.std.proofs.Common.{sym, ◌∙◌}
use Rattle.es5_machine.proofs.ScriptLemmas.{lexer-hopeless, machine-hopeless}
use Rattle.es5_machine.proofs.scripts.ScriptReader.settle.Goals as goal
use Rattle.es5_machine.proofs.scripts.ScriptReader.settle.Goals.{then-is_dead, else-is_dead}

pub returns : goal.returns
returns c u reads = record {
  alive = λ e. record {
    marks = reads.marks;
    given = reads.given;
    lexer = reads.lexer;
    offers = record { machine = reads.offers.machine; suits = reads.offers.suits };
    spells = reads.spells;
    offered = reads.offered;
  };
  hopeless = λ e more script. elim c.if-is_dead.branch [
    | then-is_dead w ↦ lexer-hopeless reads.marks u more reads.offered ((c.is_dead.ensures reads.marks reads.given reads.lexer).0 w.if-is_dead.true) script
    | else-is_dead w ↦ machine-hopeless c.args.self.now.lexer reads.marks reads.given u more reads.lexer reads.offered
        (λ v program. w.is_dead-self.ensures.hopeless (sym w.self-is ∙ e) reads.given v reads.offers.machine program) script
  ];
}
