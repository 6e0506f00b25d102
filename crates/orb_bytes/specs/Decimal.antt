-- Decimal numbers as heads and words write them: 1 to 19 ASCII digits, so that each fits 64 bits.
use Rattle.std.specs.Prelude.{ℕ, Bool, ◌&&◌, nat_le, List, length, Option, Some, None, if◌then◌else◌}
use Rattle.std.specs.List.{list_all}
use Rattle.std.specs.Char.{is_ascii_digit}
use Rattle.std.specs.Str.Parse.{digits_value}

abbrev pub is_decimal : List ℕ → Bool
is_decimal text = (nat_le 1 (length text) && nat_le (length text) 19) && list_all is_ascii_digit text

-- the number that the text writes, if it is one
abbrev pub decimal_of : List ℕ → Option ℕ
decimal_of text = if is_decimal text then Some (digits_value 10 text) else None
