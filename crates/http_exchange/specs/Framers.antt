-- What a framer is at.
use Rattle.std.specs.Prelude.{ℕ, Bool, List}
use Rattle.http_exchange.specs.declared.framing.Framer.{Framer}

-- the body that it puts goes out in chunks
abbrev pub is_chunked_by : Framer → Bool
is_chunked_by f = f.chunked

-- the bytes of the body that it keeps, since they fill no chunk yet
abbrev pub kept_by : Framer → List ℕ
kept_by f = f.rest.items
