-- What a machine has read.
use Rattle.std.specs.Prelude.{◌≡◌, List}
use Rattle.es5_lexer.specs.declared.tokens.Lexeme.{Lexeme}
use Rattle.es5_machine.specs.declared.states.Control.TheVariants.{Dead}
use Rattle.es5_machine.specs.Steps.{Config, begun, run}

-- it stands where these tokens lead
pub record HasRead (machine : Config) (tokens : List Lexeme) : Type 0 where
  pub stands : machine ≡ run begun tokens

abbrev pub IsDead : Config → Type 0
IsDead machine = machine.control ≡ Dead
