-- What a push does to the bytes of a writer.
use Rattle.std.specs.Prelude.{ℕ, List, Option, Result, Ok, Err}
use Rattle.std.specs.Io.KnownBytes.{Appends}
use Rattle.orb_io.specs.Told.{IsPrefix}

-- the writer's bytes, where they are known, grew by the whole piece, and at an `Err` by a prefix
abbrev pub PushAppends : {T E : Type 0} → Option (List ℕ) → Option (List ℕ) → Result T E → List ℕ
    → Type 0
PushAppends old new (Ok done) piece = Appends old new piece
PushAppends old new (Err failed) piece = (prefix : List ℕ) × IsPrefix prefix piece
    × Appends old new prefix
