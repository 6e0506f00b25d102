use Rattle.std.proofs.Common.{map, string_bytes, sym, ◌∙◌, ap}
use Rattle.clap.specs.Words.{subcommand_rows_of}
use Rattle.command_line.specs.Taken.{asked_of}
use Rattle.command_line.specs.Values.{asked_by}
use Rattle.command_line.proofs.TakenLemmas.{answers, read_taken}
use Rattle.command_line.proofs.ValueLemmas.{in_ranges}
use Rattle.command_line.proofs.reading.read_words.Goals as goal

-- one of the words is `--`
pub returns-then-has_end_of_options-clause-usage : goal.returns-then-has_end_of_options-clause-usage
returns-then-has_end_of_options-clause-usage c = λ _ asked taken.
    let none = (answers (map string_bytes c.args.words.now) asked taken).no_end in
    let bad = sym c.if-has_end_of_options.true ∙ c.has_end_of_options.ensures ∙ none in absurd (cc)

-- clap refuses the words
pub returns-in-Err-clause-usage : goal.returns-in-Err-clause-usage
returns-in-Err-clause-usage c = λ is asked taken. c.in-Err.ensures.err is (answers (map string_bytes c.args.words.now) asked taken).fault

pub returns-in-Some-clause-taken : goal.returns-in-Some-clause-taken
returns-in-Some-clause-taken c =
    read_taken (map string_bytes c.args.words.now) c.has_end_of_options.result (subcommand_rows_of c.in-Ok.matches) (asked_of c.in-Some.command)
    c.has_end_of_options.ensures c.if-has_end_of_options.false c.in-Ok.ensures.ok c.in-Ok.ensures.rows c.in-Some.ensures

pub returns-in-Some-clause-ranges : goal.returns-in-Some-clause-ranges
returns-in-Some-clause-ranges c =
    in_ranges (map string_bytes c.args.words.now) (asked_of c.in-Some.command)
    (read_taken (map string_bytes c.args.words.now) c.has_end_of_options.result (subcommand_rows_of c.in-Ok.matches) (asked_of c.in-Some.command)
    c.has_end_of_options.ensures c.if-has_end_of_options.false c.in-Ok.ensures.ok c.in-Ok.ensures.rows c.in-Some.ensures)

-- the values ask for nothing
pub returns-clause-usage : goal.returns-clause-usage
returns-clause-usage c = λ _ asked taken.
    let asks = (answers (map string_bytes c.args.words.now) asked taken).asks in
    let none = c.in-None.ensures ∙ ap asked_by c.in-Ok.ensures.rows in
    let bad = none ∙ asks in absurd (cc)
