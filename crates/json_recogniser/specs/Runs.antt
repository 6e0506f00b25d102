-- Runs of bytes that a machine passes at once.
use Rattle.std.specs.Prelude.{ℕ, Bool, ◌&&◌}
use Rattle.std.specs.Char.{is_ascii}
use Rattle.json_recogniser.specs.Grammar.{is_unescaped}

-- an ASCII character that stands for itself in a string
abbrev pub is_plain : ℕ → Bool
is_plain b = is_ascii b && is_unescaped b
