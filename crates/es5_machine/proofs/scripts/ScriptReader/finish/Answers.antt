use Rattle.std.proofs.Common.{ℕ, [], List, ◌++◌, sym, subst}
use Rattle.std.proofs.lemmas.List.{append-nil}
use Rattle.es5_lexer.specs.declared.tokens.Lexeme.{Lexeme}
use Rattle.es5_trees.specs.Programs.{IsProgram}
use Rattle.es5_machine.specs.Reading.{HasRead}
use Rattle.es5_machine.specs.Scripts.{IsScriptText}
use Rattle.es5_machine.proofs.ScriptLemmas.{ended, read-text}
use Rattle.es5_machine.proofs.scripts.ScriptReader.finish.Goals as goal

pub returns-then-self : goal.returns-then-self
returns-then-self c u reads = (
  λ e. absurd (cc e),
  λ script. absurd (reads.hopeless c.if-self.true [] (subst (λ (t : List ℕ). IsScriptText t) (sym (append-nil u)) script)),
)

pub returns-then-whole : goal.returns-then-whole
returns-then-whole c u reads =
    let r = reads.alive c.if-self.false in
    let given = r.given ++ c.finish-whole.new.out.items in
    let machine : HasRead c.step_all.new.machine given =
    subst (λ (t : List Lexeme). HasRead c.step_all.new.machine (r.given ++ t)) c.as_slice.ensures.value (c.step_all.ensures r.given r.offers.machine) in (
      λ accepts. read-text r.marks u c.args.self.now.goal given r.spells
          (c.finish-whole.ensures.gives r.marks r.given r.lexer c.if-whole.true) ((c.finish.ensures given machine).0 accepts),
      λ script.
          let lexes = ended r.marks u r.given c.args.self.now.goal r.offered (c.finish-whole.ensures.asks r.marks r.given r.lexer)
          r.offers.suits script in
          let (whole, is) = c.finish-whole.ensures.exact r.marks r.given script.tokens r.lexer lexes in
          (c.finish.ensures given machine).1 (subst (λ (t : List Lexeme). IsProgram t) is script.program),
    )

pub returns-else-whole : goal.returns-else-whole
returns-else-whole c u reads =
    let r = reads.alive c.if-self.false in (
      λ e. absurd (cc (e, c.if-whole.false)),
      λ script. (c.finish-whole.ensures.exact r.marks r.given script.tokens r.lexer
          (ended r.marks u r.given c.args.self.now.goal r.offered (c.finish-whole.ensures.asks r.marks r.given r.lexer)
          r.offers.suits script)).0,
    )
