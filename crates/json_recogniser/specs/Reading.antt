-- Reading JSON: what follows a piece of the grammar that begins a text, in its longest form, and nothing
-- where no such piece does. `Residuals` says with these what may still come for a machine.
use Rattle.std.specs.Prelude.{ℕ, zero, suc, Bool, ◌&&◌, ◌==◌, nat_eq, length, drop, List, [], ◌∷◌, Option, Some, None, option_and_then, option_map, codes, if◌then◌else◌}
use Rattle.std.specs.List.{starts_with}
use Rattle.std.specs.Option.{option_or}
use Rattle.std.specs.Char.{is_ascii_digit, is_ascii_hexdigit}
use Rattle.json_recogniser.specs.Characters.{quotation_mark, comma, minus_sign, full_stop, digit_zero, colon, left_square_bracket, reverse_solidus, right_square_bracket, small_f, small_n, small_t, small_u, left_curly_bracket, right_curly_bracket}
use Rattle.json_recogniser.specs.declared.states.Container.{Container}
use Rattle.json_recogniser.specs.declared.states.Container.TheVariants.{Array, Object}
use Rattle.json_recogniser.specs.Grammar.{is_white_space, is_digit_from_1, is_e, is_sign, is_unescaped, is_escaped}

-- the text without the characters of a class at its beginning
abbrev pub without_leading : (ℕ → Bool) → List ℕ → List ℕ
without_leading class [] = []
without_leading class (c ∷ text) = if class c then without_leading class text else c ∷ text

-- after *ws
abbrev pub after_spaces : List ℕ → List ℕ
after_spaces text = without_leading is_white_space text

-- after the character, where it stands at the beginning
abbrev pub after_char : ℕ → List ℕ → Option (List ℕ)
after_char expected [] = None
after_char expected (c ∷ text) = if c == expected then Some text else None

-- after the word
abbrev pub after_word : List ℕ → List ℕ → Option (List ℕ)
after_word word text = if starts_with nat_eq text word then Some (drop (length word) text) else None

-- after 1*DIGIT
abbrev pub after_digits : List ℕ → Option (List ℕ)
after_digits [] = None
after_digits (c ∷ text) = if is_ascii_digit c then Some (without_leading is_ascii_digit text) else None

abbrev pub after_minus : List ℕ → List ℕ
after_minus [] = []
after_minus (c ∷ text) = if c == minus_sign then text else c ∷ text

abbrev pub after_int : List ℕ → Option (List ℕ)
after_int [] = None
after_int (c ∷ text) =
    if c == digit_zero then Some text
    else if is_digit_from_1 c then Some (without_leading is_ascii_digit text)
    else None

-- after frac, where there is one
abbrev pub after_frac : List ℕ → Option (List ℕ)
after_frac [] = Some []
after_frac (c ∷ text) = if c == full_stop then after_digits text else Some (c ∷ text)

abbrev pub after_sign : List ℕ → List ℕ
after_sign [] = []
after_sign (c ∷ text) = if is_sign c then text else c ∷ text

-- after exp, where there is one
abbrev pub after_exp : List ℕ → Option (List ℕ)
after_exp [] = Some []
after_exp (c ∷ text) = if is_e c then after_digits (after_sign text) else Some (c ∷ text)

abbrev pub after_number : List ℕ → Option (List ℕ)
after_number text =
    option_and_then after_exp (option_and_then after_frac (after_int (after_minus text)))

-- after four hexadecimal digits
abbrev pub after_hex : List ℕ → Option (List ℕ)
after_hex (a ∷ b ∷ c ∷ d ∷ text) =
    if ((is_ascii_hexdigit a && is_ascii_hexdigit b) && is_ascii_hexdigit c) && is_ascii_hexdigit d then Some text else None
after_hex _ = None

-- after an escape, of which the reverse solidus was read
abbrev pub after_escape : List ℕ → Option (List ℕ)
after_escape [] = None
after_escape (c ∷ text) =
    if c == small_u then after_hex text
    else if is_escaped c then Some text
    else None

-- after a character of a string
abbrev pub after_string_char : List ℕ → Option (List ℕ)
after_string_char [] = None
after_string_char (c ∷ text) =
    if c == reverse_solidus then after_escape text
    else if is_unescaped c then Some text
    else None

-- after a string, of which the first quotation mark was read; the count is above the text's length
unfoldable pub after_chars : ℕ → List ℕ → Option (List ℕ)
after_chars zero text = None
after_chars (suc n) text =
    option_or (after_char quotation_mark text) (option_and_then (after_chars n) (after_string_char text))

abbrev pub after_string : List ℕ → Option (List ℕ)
after_string text = after_chars (suc (length text)) text

-- after what stands after an item: a comma, where there is one, and more, or else the end
abbrev pub after_separator : (List ℕ → Option (List ℕ)) → Option (List ℕ) → ℕ → List ℕ → Option (List ℕ)
after_separator more (Some rest) close text = more rest
after_separator more None close text = after_char close text

-- after the items of an array or object and its end, where the function gives what is after one
-- item; the count is above the text's length
unfoldable pub after_items : (List ℕ → Option (List ℕ)) → ℕ → ℕ → List ℕ → Option (List ℕ)
after_items item close zero text = None
after_items item close (suc n) text =
    option_and_then (λ rest. after_separator (after_items item close n) (after_char comma rest) close rest) (item text)

-- after white space and the end, or else after one item or more and the end
abbrev pub after_all_items : (List ℕ → Option (List ℕ)) → ℕ → List ℕ → Option (List ℕ)
after_all_items item close text =
    option_or (after_char close (after_spaces text)) (after_items item close (suc (length text)) text)

-- after a value, where the function gives what is after an array or object whose first character
-- was read
abbrev pub after_value_by : (Container → List ℕ → Option (List ℕ)) → List ℕ → Option (List ℕ)
after_value_by contents [] = None
after_value_by contents (c ∷ text) =
    if c == left_square_bracket then contents Array text
    else if c == left_curly_bracket then contents Object text
    else if c == quotation_mark then after_string text
    else if c == small_f then after_word (codes "alse") text
    else if c == small_n then after_word (codes "ull") text
    else if c == small_t then after_word (codes "rue") text
    else after_number (c ∷ text)

abbrev pub after_element_by : (Container → List ℕ → Option (List ℕ)) → List ℕ → Option (List ℕ)
after_element_by contents text = option_map after_spaces (after_value_by contents (after_spaces text))

abbrev pub after_name : List ℕ → Option (List ℕ)
after_name text = option_and_then after_string (after_char quotation_mark (after_spaces text))

abbrev pub after_colon : List ℕ → Option (List ℕ)
after_colon text = after_char colon (after_spaces text)

abbrev pub after_member_by : (Container → List ℕ → Option (List ℕ)) → List ℕ → Option (List ℕ)
after_member_by contents text =
    option_and_then (after_element_by contents) (option_and_then after_colon (after_name text))

abbrev pub after_item_by : (Container → List ℕ → Option (List ℕ)) → Container → List ℕ → Option (List ℕ)
after_item_by contents Array text = after_element_by contents text
after_item_by contents Object text = after_member_by contents text

abbrev pub close_of : Container → ℕ
close_of Array = right_square_bracket
close_of Object = right_curly_bracket

-- after an array or object, of which the first character was read, and which with those in it is
-- of at most so many levels
unfoldable pub after_contents : ℕ → Container → List ℕ → Option (List ℕ)
after_contents zero kind text = None
after_contents (suc levels) kind text =
    after_all_items (after_item_by (after_contents levels) kind) (close_of kind) text

abbrev pub after_whole_value : ℕ → List ℕ → Option (List ℕ)
after_whole_value levels text = after_value_by (after_contents levels) text

abbrev pub after_element : ℕ → List ℕ → Option (List ℕ)
after_element levels text = after_element_by (after_contents levels) text
