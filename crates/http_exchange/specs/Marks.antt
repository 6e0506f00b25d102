-- Bytes of a body as it is sent, each marked as framing or as content, so that what is sent says
-- of each prefix of it which content bytes it has.
use Rattle.std.specs.Prelude.{ℕ, List, [], ◌∷◌}

pub data Mark : Type 0 where
  Frame : ℕ → Mark
  Content : ℕ → Mark

-- the bytes as they are sent
abbrev pub bytes_of : List Mark → List ℕ
bytes_of [] = []
bytes_of (Frame b ∷ marks) = b ∷ bytes_of marks
bytes_of (Content b ∷ marks) = b ∷ bytes_of marks

-- the content bytes among them
abbrev pub content_of : List Mark → List ℕ
content_of [] = []
content_of (Frame b ∷ marks) = content_of marks
content_of (Content b ∷ marks) = b ∷ content_of marks

-- these bytes as framing, and what follows them
abbrev pub framing : List ℕ → List Mark → List Mark
framing [] rest = rest
framing (b ∷ bytes) rest = Frame b ∷ framing bytes rest

-- these bytes as content, and what follows them
abbrev pub content : List ℕ → List Mark → List Mark
content [] rest = rest
content (b ∷ bytes) rest = Content b ∷ content bytes rest
