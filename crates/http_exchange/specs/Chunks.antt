-- A body as it goes out in chunks (RFC 9112 7.1): chunks of 1,024 bytes, a last one of the rest where there
-- is a rest, and the last chunk, which is empty.
use Rattle.std.specs.Prelude.{ℕ, zero, suc, ◌*◌, ◌/◌, Bool, false, List, [], ◌∷◌, ◌++◌, length, take, drop, if◌then◌else◌, codes}
use Rattle.std.specs.Fmt.{digits}
use Rattle.orb_bytes.specs.Ascii.{crlf}

-- how many bytes a chunk has, but for the one of the rest
unfoldable pub chunk_size : ℕ
chunk_size = 1024

-- a chunk: its size in small hexadecimal digits, and the bytes, each followed by the end of a line
unfoldable pub chunk : List ℕ → List ℕ
chunk bytes = digits 16 false (length bytes) ++ (crlf ++ (bytes ++ crlf))

-- so many full chunks, of the first bytes of the body
abbrev pub full_chunks : ℕ → List ℕ → List ℕ
full_chunks zero body = []
full_chunks (suc n) body = chunk (take chunk_size body) ++ full_chunks n (drop chunk_size body)

-- how many chunks the bytes fill
abbrev pub count_full : List ℕ → ℕ
count_full body = length body / chunk_size

-- the bytes that fill no chunk
abbrev pub rest_of : List ℕ → List ℕ
rest_of body = drop (chunk_size * count_full body) body

-- a chunk of the rest, where there is a rest
abbrev pub rest_chunk : List ℕ → List ℕ
rest_chunk [] = []
rest_chunk (b ∷ bytes) = chunk (b ∷ bytes)

-- the last chunk, and no trailers
abbrev pub last_chunk : List ℕ
last_chunk = codes "0" ++ (crlf ++ crlf)

-- what goes out of a body of which these bytes have come
unfoldable pub body_so_far : (chunked : Bool) → List ℕ → List ℕ
body_so_far chunked body = if chunked then full_chunks (count_full body) body else body

-- what goes out of a whole body
unfoldable pub whole_body : (chunked : Bool) → List ℕ → List ℕ
whole_body chunked body =
    if chunked
    then full_chunks (count_full body) body ++ (rest_chunk (rest_of body) ++ last_chunk)
    else body

-- what is kept back of a body of which these bytes have come: those that fill no chunk
unfoldable pub kept_of : (chunked : Bool) → List ℕ → List ℕ
kept_of chunked body = if chunked then rest_of body else []
