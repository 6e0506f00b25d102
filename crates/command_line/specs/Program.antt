-- What clap is told of the command line. The contracts within the crate speak of it.
use Rattle.std.specs.Prelude.{true, Some, codes}
use Rattle.clap.specs.Walk.{Rule, Text}
use Rattle.clap.specs.Simple.{App, new_app, new_rule, on_top, with_rule, with_subcommand}
use Rattle.clap.specs.declared.builder.action.ArgAction.TheVariants.{Set}

abbrev pub option_rule : Text → Rule
option_rule name = record (new_rule name) { long = Some name; action = Some Set }

abbrev pub operand_rule : Text → Rule
operand_rule id = record (new_rule id) { action = Some Set }

abbrev pub job_app : Text → App
job_app name = with_rule (with_rule (new_app name) (option_rule (codes "policy"))) (option_rule (codes "limit"))

-- a word and nothing after it
abbrev pub word_app : Text → App
word_app name = new_app name

abbrev pub operand_app : Text → App
operand_app name = with_rule (word_app name) (operand_rule (codes "first"))

abbrev pub operands_app : Text → App
operands_app name = with_rule (operand_app name) (operand_rule (codes "second"))

-- the program, before its subcommands
abbrev pub bare_app : App
bare_app = on_top (λ s. record s {
  no_binary_name = true;
  disable_help_flag = true;
  disable_help_subcommand = true;
  disable_version_flag = true;
}) (new_app (codes "orb"))

abbrev pub program_app : App
program_app =
    with_subcommand (with_subcommand (with_subcommand (with_subcommand (with_subcommand (with_subcommand (with_subcommand
    (with_subcommand bare_app
    (job_app (codes "filter")).top) (job_app (codes "explain")).top)
    (operands_app (codes "trial")).top) (operand_app (codes "mime")).top)
    (word_app (codes "har")).top) (word_app (codes "type")).top)
    (operands_app (codes "serve")).top) (operands_app (codes "proxy")).top
