-- What the adapters over std's readers and writers hold.
use Rattle.std.specs.Prelude.{ℕ}
use Rattle.orb_io.specs.declared.streams.StdSource.{StdSource}
use Rattle.orb_io.specs.declared.streams.StdSink.{StdSink}

-- the reader
abbrev pub reader_of : {R : Type 0} → StdSource R → R
reader_of source = source.inner

-- how many reads failed, up to the last u64
abbrev pub read_faults : {R : Type 0} → StdSource R → ℕ
read_faults source = source.faults

-- the writer
abbrev pub writer_of : {W : Type 0} → StdSink W → W
writer_of sink = sink.inner

-- how many pushes failed, up to the last u64
abbrev pub write_faults : {W : Type 0} → StdSink W → ℕ
write_faults sink = sink.faults
