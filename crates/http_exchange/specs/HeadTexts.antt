-- The texts of heads in a recording: a head runs to its first empty line, and has at most 65,536 bytes.
use Rattle.std.specs.Prelude.{◌≡◌, ℕ, ◌<◌, ◌≤◌, List, length, Some, None}
use Rattle.http_exchange.specs.Head.{head_length}

-- the most bytes of a head
unfoldable pub head_limit : ℕ
head_limit = 65536

-- the text is a head, from its first byte to the end of its first empty line
pub record IsHeadText (text : List ℕ) : Type 0 where
  pub ends : head_length text ≡ Some (length text)
  pub fits : length text ≤ head_limit

-- the text may go on to be a head
pub record IsOpenHead (text : List ℕ) : Type 0 where
  pub open_ : head_length text ≡ None
  pub fits : length text < head_limit

-- so many bytes hold no empty line
pub record IsLongHead (text : List ℕ) : Type 0 where
  pub open_ : head_length text ≡ None
  pub full : length text ≡ head_limit
