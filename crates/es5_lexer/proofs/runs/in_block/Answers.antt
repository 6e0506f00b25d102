use Rattle.std.proofs.Common.{Bool, sym, ap, ◌∙◌}
use Rattle.es5_lexer.specs.Runs.{stays}
use Rattle.es5_lexer.specs.declared.states.State.TheVariants.{BlockComment}
use Rattle.es5_lexer.proofs.RunLemmas.{block_table, no_table}
use Rattle.es5_lexer.proofs.runs.in_block.Goals as goal

pub returns-then-star : goal.returns-then-star
returns-then-star c full n h = no_table n h ∙ ap (λ (b : Bool). stays (BlockComment b) full n) (sym c.if-star.true)

pub returns-else-star : goal.returns-else-star
returns-else-star c full n h = block_table n h ∙ ap (λ (b : Bool). stays (BlockComment b) full n) (sym c.if-star.false)
