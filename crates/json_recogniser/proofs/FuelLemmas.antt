-- The counts of the loops don't matter, where they are above the text's length: each piece that is read is shorter than the text.
use Rattle.std.proofs.Common.{◌≡◌, ℕ, zero, suc, ◌<◌, List, ◌∷◌, length, Option, Some, None, option_and_then, refl, ap, length-append, ◌≤◌, arith}
use Rattle.std.specs.Option.{option_or}
use Rattle.json_recogniser.specs.declared.states.Container.{Container}
use Rattle.json_recogniser.specs.declared.states.Container.TheVariants.{Array, Object}
use Rattle.json_recogniser.specs.Grammar.{is_white_space, string_text}
use Rattle.json_recogniser.specs.Reading.{after_spaces, after_char, after_name, after_colon, after_string_char, after_chars, after_separator, after_items, after_item_by, after_value_by, after_contents}
use Rattle.json_recogniser.proofs.Soundness.{one_char, char-cut, contents-cut, value-cut, element-cut, member-cut, name-cut, colon-cut, leading}
use Rattle.json_recogniser.proofs.Completeness.{char-longer, chars-longer, value-longer, element-longer, member-longer}

-- ---- what is after a piece is shorter

pub shorter_char : (text rest : List ℕ) → after_string_char text ≡ Some rest → length rest < length text
shorter_char text rest is =
    let cut = char-cut text rest is in
    omega (arith, char-longer cut.0 rest, ap length cut.2)

pub shorter_value : (levels : ℕ) (text rest : List ℕ) → after_value_by (after_contents levels) text ≡ Some rest → length rest < length text
shorter_value levels text rest is =
    let cut = value-cut levels (after_contents levels) (contents-cut levels) text rest is in
    omega (arith, value-longer cut.0 rest, ap length cut.3)

pub shorter_item : (levels : ℕ) (kind : Container) (text rest : List ℕ) → after_item_by (after_contents levels) kind text ≡ Some rest
    → length rest < length text
shorter_item levels Array text rest is =
    let cut = element-cut levels (after_contents levels) (contents-cut levels) text rest is in
    omega (arith, element-longer cut.0 rest, ap length cut.3)
shorter_item levels Object text rest is =
    let cut = member-cut levels (after_contents levels) (contents-cut levels) text rest is in
    omega (arith, member-longer cut.0 rest, ap length cut.3)

pub shorter_name : (levels : ℕ) (text rest : List ℕ) → after_name text ≡ Some rest → length rest < length text
shorter_name levels text rest is =
    let cut = name-cut levels (after_contents levels) (contents-cut levels) text rest is in
    omega (arith, chars-longer cut.1 rest, ap length cut.4, length-append cut.0 (string_text cut.1 rest))

pub shorter_colon : (levels : ℕ) (text rest : List ℕ) → after_colon text ≡ Some rest → length rest < length text
shorter_colon levels text rest is =
    let cut = colon-cut levels (after_contents levels) (contents-cut levels) text rest is in
    omega (arith, ap length cut.2, length-append cut.0 (0x3A ∷ rest))

pub spaces_shorter : (text : List ℕ) → length (after_spaces text) ≤ length text
spaces_shorter text =
    let cut = leading is_white_space text in
    omega (arith, ap length cut.2, length-append cut.0 (after_spaces text))

-- ---- any count above the text's length does

pub chars_fuel : (n m : ℕ) (text : List ℕ) → length text < n → length text < m → after_chars n text ≡ after_chars m text
unfolding after_chars
chars_fuel zero m text more most = absurd (omega arith)
chars_fuel (suc n) zero text more most = absurd (omega arith)
chars_fuel (suc n) (suc m) text more most =
    ap (λ o. option_or (after_char 0x22 text) o)
    (go_on (after_string_char text) (λ rest is. chars_fuel n m rest (let h = shorter_char text rest is in omega arith) (let h = shorter_char text rest is in omega arith))) where
      go_on : (o : Option (List ℕ)) → ((rest : List ℕ) → o ≡ Some rest → after_chars n rest ≡ after_chars m rest)
          → option_and_then (after_chars n) o ≡ option_and_then (after_chars m) o
      go_on None same = refl
      go_on (Some rest) same = same rest refl

pub items_fuel : (item : List ℕ → Option (List ℕ)) (close n m : ℕ) (text : List ℕ)
    → ((t rest : List ℕ) → item t ≡ Some rest → length rest < length t)
    → length text < n → length text < m → after_items item close n text ≡ after_items item close m text
unfolding after_items
items_fuel item close zero m text shorter more most = absurd (omega arith)
items_fuel item close (suc n) zero text shorter more most = absurd (omega arith)
items_fuel item close (suc n) (suc m) text shorter more most =
    go_on (item text) (λ rest others is comma.
    let h = shorter text rest is in
    let k = ap length (one_char 0x2C rest others comma) in
    items_fuel item close n m others shorter (omega arith) (omega arith)) where
      go_on : (o : Option (List ℕ))
          → ((rest others : List ℕ) → o ≡ Some rest → after_char 0x2C rest ≡ Some others → after_items item close n others ≡ after_items item close m others)
          → option_and_then (λ rest. after_separator (after_items item close n) (after_char 0x2C rest) close rest) o
          ≡ option_and_then (λ rest. after_separator (after_items item close m) (after_char 0x2C rest) close rest) o
      go_on None same = refl
      go_on (Some rest) same = comma (after_char 0x2C rest) refl where
        comma : (o : Option (List ℕ)) → after_char 0x2C rest ≡ o
            → after_separator (after_items item close n) o close rest ≡ after_separator (after_items item close m) o close rest
        comma None is = refl
        comma (Some others) is = same rest others refl is
