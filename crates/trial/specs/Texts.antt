-- The texts of bodies in HTTP/1.1 (RFC 9112), as they are sent in chunks.
use Rattle.std.specs.Prelude.{ℕ, zero, suc, ◌/◌, List, ◌++◌, length, take, drop}
use Rattle.http_exchange.specs.Chunks.{chunk, rest_chunk, last_chunk}

-- a body in so many chunks of a size, a chunk of the rest where there is one, and the last chunk (RFC 9112 7.1)
abbrev pub in_chunks : (size count : ℕ) → List ℕ → List ℕ
in_chunks size zero body = rest_chunk body ++ last_chunk
in_chunks size (suc count) body = chunk (take size body) ++ in_chunks size count (drop size body)

-- a body in chunks of a size, as many as it fills
abbrev pub chunked_text : (size : ℕ) → List ℕ → List ℕ
chunked_text size body = in_chunks size (length body / size) body
