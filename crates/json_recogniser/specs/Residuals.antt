-- What may still come: from each state, the texts that make the whole a JSON text. The pieces of the grammar are read as `Reading`
-- reads them, which a JSON text is exactly where they read it whole.
use Rattle.std.specs.Prelude.{ℕ, zero, suc, ◌-◌, Bool, true, false, nat_lt, List, [], ◌∷◌, length, codes, Option, Some, None, option_and_then, if◌then◌else◌}
use Rattle.std.specs.Char.{is_ascii_digit, is_ascii_hexdigit}
use Rattle.json_recogniser.specs.Characters.{comma}
use Rattle.json_recogniser.specs.declared.states.Container.{Container}
use Rattle.json_recogniser.specs.declared.states.State.{State}
use Rattle.json_recogniser.specs.declared.states.State.TheVariants as state
use Rattle.json_recogniser.specs.declared.states.Role.{Role}
use Rattle.json_recogniser.specs.declared.states.Role.TheVariants as role
use Rattle.json_recogniser.specs.declared.states.Part.{Part}
use Rattle.json_recogniser.specs.declared.states.Part.TheVariants as part
use Rattle.json_recogniser.specs.declared.states.Letters.{Letters}
use Rattle.json_recogniser.specs.declared.states.Letters.TheVariants as letters
use Rattle.json_recogniser.specs.declared.states.Move.{Move}
use Rattle.json_recogniser.specs.declared.states.Move.TheVariants as move
use Rattle.json_recogniser.specs.declared.states.Step.{Step}
use Rattle.json_recogniser.specs.Reading.{without_leading, after_spaces, after_char, after_word, after_digits, after_int, after_frac, after_sign, after_exp, after_escape, after_string, after_separator, after_items, after_all_items, after_item_by, after_contents, after_whole_value, after_name, after_colon, close_of}

-- a test of what is after a piece, if the piece stands there
abbrev pub through : (List ℕ → Bool) → Option (List ℕ) → Bool
through rest None = false
through rest (Some text) = rest text

-- the items of an array or object that stands in so many others
abbrev pub item_in : List Container → Container → List ℕ → Option (List ℕ)
item_in marks kind text = after_item_by (after_contents (1023 - length marks)) kind text

abbrev pub items_in : List Container → Container → List ℕ → Option (List ℕ)
items_in marks kind text = after_items (item_in marks kind) (close_of kind) (suc (length text)) text

abbrev pub is_nothing : List ℕ → Bool
is_nothing [] = true
is_nothing (c ∷ text) = false

-- after a value, with these arrays and objects open, the innermost first
abbrev pub after_residual : List Container → List ℕ → Bool
after_residual [] text = is_nothing (after_spaces text)
after_residual (kind ∷ marks) text =
    through (after_residual marks) (after_separator (items_in marks kind) (after_char comma (after_spaces text)) (close_of kind) (after_spaces text))

-- before a value
abbrev pub value_residual : List Container → List ℕ → Bool
value_residual marks text = through (after_residual marks) (after_whole_value (1024 - length marks) (after_spaces text))

-- after a name
abbrev pub colon_residual : List Container → List ℕ → Bool
colon_residual marks text = through (value_residual marks) (after_colon text)

-- after a bracket that opens
abbrev pub first_residual : List Container → List ℕ → Bool
first_residual [] text = false
first_residual (kind ∷ marks) text = through (after_residual marks) (after_all_items (item_in marks kind) (close_of kind) text)

-- after a comma
abbrev pub item_residual : List Container → List ℕ → Bool
item_residual [] text = false
item_residual (kind ∷ marks) text = through (after_residual marks) (items_in marks kind text)

-- before a name
abbrev pub name_residual : List Container → List ℕ → Bool
name_residual marks text = through (colon_residual marks) (after_name text)

-- after a string
abbrev pub after_string_residual : Role → List Container → List ℕ → Bool
after_string_residual role.Name marks text = colon_residual marks text
after_string_residual role.Value marks text = after_residual marks text

-- after so many hexadecimal digits
abbrev pub after_hexes : ℕ → List ℕ → Option (List ℕ)
after_hexes zero text = Some text
after_hexes (suc n) [] = None
after_hexes (suc n) (c ∷ text) = if is_ascii_hexdigit c then after_hexes n text else None

abbrev pub residual_of_text : Role → List Container → Option (List ℕ) → Bool
residual_of_text r marks rest = through (after_string_residual r marks) (option_and_then after_string rest)

abbrev pub after_part : Part → List ℕ → Option (List ℕ)
after_part part.Minus text = option_and_then after_exp (option_and_then after_frac (after_int text))
after_part part.Zero text = option_and_then after_exp (after_frac text)
after_part part.Integer text = option_and_then after_exp (after_frac (without_leading is_ascii_digit text))
after_part part.Point text = option_and_then after_exp (after_digits text)
after_part part.Fraction text = after_exp (without_leading is_ascii_digit text)
after_part part.E text = after_digits (after_sign text)
after_part part.Sign text = after_digits text
after_part part.Exponent text = Some (without_leading is_ascii_digit text)

abbrev pub residual_of_number : Part → List Container → List ℕ → Bool
residual_of_number p marks text = through (after_residual marks) (after_part p text)

abbrev pub letters_of : Letters → List ℕ
letters_of letters.Alse = codes "alse"
letters_of letters.Lse = codes "lse"
letters_of letters.Se = codes "se"
letters_of letters.E = codes "e"
letters_of letters.Rue = codes "rue"
letters_of letters.Ue = codes "ue"
letters_of letters.Ull = codes "ull"
letters_of letters.Ll = codes "ll"
letters_of letters.L = codes "l"

abbrev pub residual_of_word : Letters → List Container → List ℕ → Bool
residual_of_word l marks text = through (after_residual marks) (after_word (letters_of l) text)

-- from each state
abbrev pub residual : State → List Container → List ℕ → Bool
residual state.Value marks text = value_residual marks text
residual state.First marks text = first_residual marks text
residual state.Item marks text = item_residual marks text
residual state.Colon marks text = colon_residual marks text
residual state.After marks text = after_residual marks text
residual (state.Text r) marks text = residual_of_text r marks (Some text)
residual (state.Escape r) marks text = residual_of_text r marks (after_escape text)
residual (state.Hex r more) marks text = residual_of_text r marks (after_hexes (suc more) text)
residual (state.Number p) marks text = residual_of_number p marks text
residual (state.Word l) marks text = residual_of_word l marks text
residual state.Dead marks text = false

-- after a step, whose move the marks make: at most 1,024 are open
abbrev pub moved_by : Move → State → List Container → List ℕ → Bool
moved_by move.Stay s marks text = residual s marks text
moved_by (move.Open kind) s marks text = if nat_lt (length marks) 1024 then residual s (kind ∷ marks) text else false
moved_by move.Close s [] text = false
moved_by move.Close s (kind ∷ marks) text = residual s marks text

abbrev pub moved : Step → List Container → List ℕ → Bool
moved step marks text = moved_by step.marks step.state marks text

-- the innermost mark
abbrev pub mark_of : List Container → Option Container
mark_of [] = None
mark_of (kind ∷ marks) = Some kind

-- the whole text is JSON, as it is read
abbrev pub is_json : List ℕ → Bool
is_json text = value_residual [] text

-- a text may end in the state, where nothing is open
abbrev pub may_end : State → Bool
may_end state.After = true
may_end (state.Number part.Zero) = true
may_end (state.Number part.Integer) = true
may_end (state.Number part.Fraction) = true
may_end (state.Number part.Exponent) = true
may_end s = false

abbrev pub is_dead_state : State → Bool
is_dead_state state.Dead = true
is_dead_state s = false

abbrev pub is_text_state : State → Bool
is_text_state (state.Text r) = true
is_text_state s = false
