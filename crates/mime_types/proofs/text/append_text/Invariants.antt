use Rattle.std.proofs.Common.{◌≡◌, ◌++◌, take}
use Rattle.std.specs.List.{flat_map}
use Rattle.mime_types.specs.Text.{parameter_text}
use Rattle.mime_types.specs.Stored.{pairs_in}
use Rattle.mime_types.proofs.text.append_text.Given as goal

abbrev pub invariant-loop-parameter : goal.invariant-loop-parameter
invariant-loop-parameter l =
    l.text.items ≡ l.initial.text.items ++ flat_map parameter_text (pairs_in (take l.parameter-index l.parameters))
