use Rattle.std.proofs.Common.{◌≡◌, false, map, take, string_bytes}
use Rattle.std.specs.List.{list_any}
use Rattle.command_line.specs.Values.{is_end_of_options}
use Rattle.command_line.proofs.reading.has_end_of_options.Given as goal

abbrev pub invariant-loop-word : goal.invariant-loop-word
invariant-loop-word l = list_any is_end_of_options (map string_bytes (take l.word-index l.words)) ≡ false
