-- The window: the first bytes of a body, which are looked at for its type. It is the resource header of WHATWG MIME
-- Sniffing 3, with a length of its own.
use Rattle.std.specs.Prelude.{ℕ, List, take}

-- how many bytes it has at the most
unfoldable pub window_size : ℕ
window_size = 1024

-- these bytes: all of a shorter body
abbrev pub window_of : List ℕ → List ℕ
window_of body = take window_size body
