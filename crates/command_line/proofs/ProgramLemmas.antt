-- The command line as clap builds it.
use Rattle.clap.specs.Simple.{App, Shape, built_leaf, inherited}
use Rattle.command_line.specs.Program.{bare_app, job_app, word_app, operand_app, operands_app}
use Rattle.command_line.specs.Taken.{Text}

-- a subcommand, when it is built
abbrev pub leaf : App → Shape
leaf app = built_leaf (inherited bare_app.top app.top)

abbrev pub job_leaf : Text → Shape
job_leaf name = leaf (job_app name)

abbrev pub word_leaf : Text → Shape
word_leaf name = leaf (word_app name)

abbrev pub operand_leaf : Text → Shape
operand_leaf name = leaf (operand_app name)

abbrev pub operands_leaf : Text → Shape
operands_leaf name = leaf (operands_app name)
