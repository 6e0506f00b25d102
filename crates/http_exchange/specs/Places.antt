-- What the calls on places in a chunked body compute: how a place goes on by a byte.
-- `specs/Chunked` says what a chunked body is; this says no more of it.
use Rattle.std.specs.Prelude.{ℕ, zero, suc, ◌+◌, ◌*◌, ◌^◌, ◌<◌, ◌≤◌, Bool, true, false, ◌==◌, nat_lt, List, [], ◌∷◌, if◌then◌else◌}
use Rattle.std.specs.Char.{is_ascii_hexdigit, digit_value}
use Rattle.orb_bytes.specs.Ascii.{line_feed, carriage_return}
use Rattle.http_exchange.specs.Marks.{Mark, Frame, Content, content_of}
use Rattle.http_exchange.specs.Chunked.{is_line_byte, is_separator}
use Rattle.http_exchange.specs.declared.places.Place.{Place}
use Rattle.http_exchange.specs.declared.places.Place.TheVariants.{Size, SizeEnding, SizeLf, Data, DataCr, DataLf, LineStart, TrailerLine, TrailerLf, LastLf, Whole, Dead}

-- the next byte is content
abbrev pub is_content : Place → Bool
is_content (Data left) = true
is_content _ = false

-- a byte was refused
abbrev pub is_dead : Place → Bool
is_dead Dead = true
is_dead _ = false

-- the body has ended
abbrev pub is_end : Place → Bool
is_end Whole = true
is_end _ = false

-- where so many content bytes are left
abbrev pub with_left : ℕ → Place
with_left zero = DataCr
with_left (suc n) = Data (suc n)

-- after the line of a size
abbrev pub after_size : ℕ → Place
after_size zero = LineStart
after_size (suc n) = Data (suc n)

-- the place after one byte more
abbrev pub step : Place → ℕ → Place
step (Size size digits) b =
    if is_ascii_hexdigit b then (if nat_lt digits 15 then Size (size * 16 + digit_value b) (digits + 1) else Dead)
    else if digits == 0 then Dead
    else if is_separator b then SizeEnding size
    else if b == carriage_return then SizeLf size else Dead
step (SizeEnding size) b = if is_line_byte b then SizeEnding size else if b == carriage_return then SizeLf size else Dead
step (SizeLf size) b = if b == line_feed then after_size size else Dead
step (Data zero) b = DataCr
step (Data (suc n)) b = with_left n
step DataCr b = if b == carriage_return then DataLf else Dead
step DataLf b = if b == line_feed then Size 0 0 else Dead
step LineStart b = if is_line_byte b then TrailerLine else if b == carriage_return then LastLf else Dead
step TrailerLine b = if is_line_byte b then TrailerLine else if b == carriage_return then TrailerLf else Dead
step TrailerLf b = if b == line_feed then LineStart else Dead
step LastLf b = if b == line_feed then Whole else Dead
step Whole b = Dead
step Dead b = Dead

-- the place after these bytes
abbrev pub run : Place → List ℕ → Place
run p [] = p
run p (b ∷ m) = run (step p b) m

-- the bytes, marked by the places at which they are read
abbrev pub marks : Place → List ℕ → List Mark
marks p [] = []
marks p (b ∷ m) = (if is_content p then Content b else Frame b) ∷ marks (step p b) m

-- the content bytes among them
abbrev pub gives : Place → List ℕ → List ℕ
gives p m = content_of (marks p m)

-- a size fits its digits, and where content is read there is some left
abbrev pub IsSound : Place → Type 0
IsSound (Size size digits) = (digits ≤ 15) × (size < 16 ^ digits)
IsSound (Data left) = 1 ≤ left
IsSound _ = Unit {0}
