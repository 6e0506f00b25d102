-- Where a decoder stands.
use Rattle.std.specs.Prelude.{ℕ}
use Rattle.text_stream.specs.declared.decoder.Stage.{Stage}
use Rattle.text_stream.specs.declared.decoder.Stage.TheVariants.{Start, Within, Finished}

-- how many bytes are pending at most
abbrev pub most_pending : Stage → ℕ
most_pending Start = 2
most_pending Within = 3
most_pending Finished = 0
