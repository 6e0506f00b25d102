-- What goes out piece by piece of a body, where the bytes before it that fill no chunk were kept.
use Rattle.std.specs.Prelude.{◌≡◌, ℕ, Bool, List, [], ◌++◌, if◌then◌else◌}
use Rattle.http_exchange.specs.Chunks.{full_chunks, count_full, rest_of, rest_chunk, last_chunk}

-- what goes out of a piece, after the bytes that were kept
unfoldable pub put_of : (chunked : Bool) → (kept : List ℕ) → List ℕ → List ℕ
put_of chunked kept piece = if chunked then full_chunks (count_full (kept ++ piece)) (kept ++ piece) else piece

-- the bytes that are kept then
unfoldable pub kept_after : (chunked : Bool) → (kept : List ℕ) → List ℕ → List ℕ
kept_after chunked kept piece = if chunked then rest_of (kept ++ piece) else kept

-- what goes out at the end of the body
unfoldable pub end_of : (chunked : Bool) → (kept : List ℕ) → List ℕ
end_of chunked kept = if chunked then rest_chunk kept ++ last_chunk else []

-- some of a piece was read after the bytes that were kept: the text is the chunks that they fill, the rest
-- what of them fills none, and this much of the piece is left
pub record Gathers (kept piece text rest left : List ℕ) : Type 0 where
  pub done : List ℕ
  pub is : piece ≡ done ++ left
  pub chunks : text ≡ full_chunks (count_full (kept ++ done)) (kept ++ done)
  pub rest_is : rest ≡ rest_of (kept ++ done)
