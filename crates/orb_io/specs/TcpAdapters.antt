-- What a link over a stream of the system holds.
use Rattle.std.specs.Prelude.{ℕ}
use Rattle.orb_io.specs.declared.tcp.TcpLink.{TcpLink}

-- the stream
abbrev pub stream_of : {S : Type 0} → TcpLink S → S
stream_of link = link.stream

-- how many reads failed, up to the last u64
abbrev pub pull_faults : {S : Type 0} → TcpLink S → ℕ
pull_faults link = link.pull_faults

-- how many pushes failed, up to the last u64
abbrev pub push_faults : {S : Type 0} → TcpLink S → ℕ
push_faults link = link.push_faults
