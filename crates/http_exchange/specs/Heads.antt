-- Whole heads of requests and responses (RFC 9112 2 to 5), as the grammar of `httparse` has them.
use Rattle.std.specs.Prelude.{◌≡◌, ℕ, ◌≤◌, List, [], length}
use Rattle.httparse.specs.Grammar.{RequestHead, ReadsRequest, ResponseHead, ReadsResponse}

-- the bytes are, from first to last, this request head, and it has at most 128 fields
abbrev pub IsRequest : List ℕ → RequestHead → Type 0
IsRequest head h = ReadsRequest head h [] × (length h.fields ≤ 128)

-- the same of a response head
abbrev pub IsResponse : List ℕ → ResponseHead → Type 0
IsResponse head h = ReadsResponse head h [] × (length h.fields ≤ 128)

-- bytes are at most one request head: the grammar is unambiguous
abbrev pub HasOneRequest : List ℕ → Type 0
HasOneRequest head = (h k : RequestHead) → IsRequest head h → IsRequest head k → h ≡ k

-- the same of response heads
abbrev pub HasOneResponse : List ℕ → Type 0
HasOneResponse head = (h k : ResponseHead) → IsResponse head h → IsResponse head k → h ≡ k
