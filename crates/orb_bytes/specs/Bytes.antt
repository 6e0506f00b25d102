-- Bytes, and the classes of bytes that the standards name. A class is a test of a number.
use Rattle.std.specs.Prelude.{ℕ, Bool, ◌&&◌, ◌||◌, ◌==◌, ◌≡◌, true, false, nat_le, List, [], ◌∷◌, codes}
use Rattle.std.specs.List.{list_all, list_any}
use Rattle.std.specs.Char.{is_ascii_alphanumeric}
use Rattle.orb_bytes.specs.Ascii.{tab, line_feed, form_feed, carriage_return, space, greater_than_sign, tilde, least_past_ascii, greatest_byte}

-- the list has no element
abbrev pub is_empty : {X : Type 0} → List X → Bool
is_empty [] = true
is_empty (x ∷ xs) = false

-- the byte is one of these
abbrev pub is_one_of : List ℕ → ℕ → Bool
is_one_of bytes b = list_any (λ c. c == b) bytes

-- each byte of the text passes the test
abbrev pub AllPass : (ℕ → Bool) → List ℕ → Type 0
AllPass test text = list_all test text ≡ true

-- HTTP whitespace: tab, line feed, carriage return and space (WHATWG Fetch 2.2, MIME Sniffing 3)
abbrev pub is_http_whitespace : ℕ → Bool
is_http_whitespace b = is_one_of (tab ∷ line_feed ∷ carriage_return ∷ space ∷ []) b

-- HTTP tab or space (WHATWG Fetch 2.2)
abbrev pub is_tab_or_space : ℕ → Bool
is_tab_or_space b = is_one_of (tab ∷ space ∷ []) b

-- a whitespace byte: tab, line feed, form feed, carriage return and space (WHATWG MIME Sniffing 3)
abbrev pub is_whitespace_byte : ℕ → Bool
is_whitespace_byte b = is_one_of (tab ∷ line_feed ∷ form_feed ∷ carriage_return ∷ space ∷ []) b

-- a tag-terminating byte: space and `>` (WHATWG MIME Sniffing 3)
abbrev pub is_tag_terminating : ℕ → Bool
is_tag_terminating b = is_one_of (space ∷ greater_than_sign ∷ []) b

-- an HTTP token code point (WHATWG MIME Sniffing 3)
abbrev pub is_token_byte : ℕ → Bool
is_token_byte b = is_ascii_alphanumeric b || is_one_of (codes "!#$%&'*+-.^_`|~") b

-- an HTTP quoted-string token code point (WHATWG MIME Sniffing 3)
abbrev pub is_quoted_token_byte : ℕ → Bool
is_quoted_token_byte b =
    b == tab || (nat_le space b && nat_le b tilde) || (nat_le least_past_ascii b && nat_le b greatest_byte)
