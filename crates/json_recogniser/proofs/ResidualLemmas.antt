-- Residuals: what the pieces of the grammar leave, said in two ways.
use Rattle.std.proofs.Common.{◌≡◌, ℕ, suc, ◌-◌, ◌<◌, Bool, true, false, cond, ◌&&◌, ◌==◌, nat_lt, List, [], ◌∷◌, length, Option, Some, None, option_and_then, option_map, refl, sym, ap, ◌∙◌, inl, inr, arith}
use Rattle.std.specs.Option.{option_or}
use Rattle.std.specs.Char.{is_ascii_hexdigit}
use Rattle.std.proofs.lemmas.Bool.{cases_Bool}
use Rattle.std.proofs.lemmas.Bool.Decides.{nat_tests}
use Rattle.json_recogniser.specs.declared.states.Container.{Container}
use Rattle.json_recogniser.specs.declared.states.Container.TheVariants.{Array, Object}
use Rattle.json_recogniser.specs.declared.states.Move.TheVariants.{Open}
use Rattle.json_recogniser.specs.declared.states.State.TheVariants.{First}
use Rattle.json_recogniser.specs.declared.states.Role.{Role}
use Rattle.json_recogniser.specs.declared.states.Step.{Step}
use Rattle.json_recogniser.specs.Grammar.{is_white_space, is_unescaped}
use Rattle.json_recogniser.specs.Reading.{after_spaces, after_char, after_name, after_colon, after_hex, after_escape, after_string, after_chars, after_separator, after_items, after_element_by, after_whole_value, after_contents, close_of}
use Rattle.json_recogniser.specs.Residuals.{through, item_in, items_in, after_residual, value_residual, name_residual, colon_residual, first_residual, item_residual, after_string_residual, after_hexes, residual_of_text, moved_by, moved, mark_of}
use Rattle.json_recogniser.proofs.Soundness.{one_char, escape-cut}
use Rattle.json_recogniser.proofs.Completeness.{char-longer}
use Rattle.json_recogniser.proofs.FuelLemmas.{chars_fuel, items_fuel, shorter_item, shorter_value, shorter_name, shorter_colon, spaces_shorter}

-- ---- brackets that open

pub opens : (kind : Container) (marks : List Container) (text : List ℕ)
    → moved_by (Open kind) First marks text ≡ through (after_residual marks) (after_contents (1024 - length marks) kind text)
unfolding after_contents
opens kind marks text =
    elim (cases_Bool (nat_lt (length marks) 1024)) [
      | inl room ↦
          let left : 1024 - length marks ≡ suc (1023 - length marks) = grind (arith, nat_tests) in
          rw (room, left) refl
      | inr none ↦
          let left : 1024 - length marks ≡ 0 = grind (arith, nat_tests) in
          rw (none, left) refl
    ]

-- ---- items

-- after an item there is what is after its value
after_one_item : (kind : Container) (marks : List Container) (n : ℕ) (read : Option (List ℕ))
    → ((rest : List ℕ) → read ≡ Some rest → length rest < n)
    → through (after_residual marks)
    (option_and_then (λ rest. after_separator (after_items (item_in marks kind) (close_of kind) n) (after_char 0x2C rest) (close_of kind) rest)
    (option_map after_spaces read))
    ≡ through (after_residual (kind ∷ marks)) read
after_one_item kind marks n None shorter = refl
after_one_item kind marks n (Some rest) shorter = ap (through (after_residual marks)) (comma (after_char 0x2C (after_spaces rest)) refl) where
  comma : (o : Option (List ℕ)) → after_char 0x2C (after_spaces rest) ≡ o
      → after_separator (after_items (item_in marks kind) (close_of kind) n) o (close_of kind) (after_spaces rest)
      ≡ after_separator (items_in marks kind) o (close_of kind) (after_spaces rest)
  comma None is = refl
  comma (Some others) is =
      let within = shorter rest refl in
      let fewer = spaces_shorter rest in
      let one = ap length (one_char 0x2C (after_spaces rest) others is) in
      items_fuel (item_in marks kind) (close_of kind) n (suc (length others)) others (shorter_item (1023 - length marks) kind) (omega arith) (omega arith)

-- the levels that are left inside
inside : (kind : Container) (marks : List Container) → 1024 - length (kind ∷ marks) ≡ 1023 - length marks
inside kind marks = omega arith

pub item_of_array : (marks : List Container) (text : List ℕ) → item_residual (Array ∷ marks) text ≡ value_residual (Array ∷ marks) text
unfolding after_items
item_of_array marks text =
    after_one_item Array marks (length text) (after_whole_value (1023 - length marks) (after_spaces text))
    (λ rest is. let fewer = shorter_value (1023 - length marks) (after_spaces text) rest is in let spaces = spaces_shorter text in omega arith)
    ∙ ap (λ l. through (after_residual (Array ∷ marks)) (after_whole_value l (after_spaces text))) (sym (inside Array marks))

pub item_of_object : (marks : List Container) (text : List ℕ) → item_residual (Object ∷ marks) text ≡ name_residual (Object ∷ marks) text
unfolding after_items
item_of_object marks text = name (after_name text) refl where
  step : ℕ → List ℕ → Option (List ℕ)
  step n rest = after_separator (after_items (item_in marks Object) 0x7D n) (after_char 0x2C rest) 0x7D rest

  value : (rest : List ℕ) → length rest < length text
      → through (after_residual marks) (option_and_then (λ r. after_separator (after_items (item_in marks Object) 0x7D (length text)) (after_char 0x2C r) 0x7D r)
      (after_element_by (after_contents (1023 - length marks)) rest))
      ≡ value_residual (Object ∷ marks) rest
  value rest within =
      after_one_item Object marks (length text) (after_whole_value (1023 - length marks) (after_spaces rest))
      (λ more is. let fewer = shorter_value (1023 - length marks) (after_spaces rest) more is in let spaces = spaces_shorter rest in omega arith)
      ∙ ap (λ l. through (after_residual (Object ∷ marks)) (after_whole_value l (after_spaces rest))) (sym (inside Object marks))

  colon : (named : List ℕ) → length named < length text → (o : Option (List ℕ)) → after_colon named ≡ o
      → through (after_residual marks) (option_and_then (λ r. after_separator (after_items (item_in marks Object) 0x7D (length text)) (after_char 0x2C r) 0x7D r)
      (option_and_then (after_element_by (after_contents (1023 - length marks))) o))
      ≡ through (value_residual (Object ∷ marks)) o
  colon named within None is = refl
  colon named within (Some rest) is = value rest (let fewer = shorter_colon 0 named rest is in omega arith)

  name : (o : Option (List ℕ)) → after_name text ≡ o
      → through (after_residual marks) (option_and_then (λ r. after_separator (after_items (item_in marks Object) 0x7D (length text)) (after_char 0x2C r) 0x7D r)
      (option_and_then (after_element_by (after_contents (1023 - length marks))) (option_and_then after_colon o)))
      ≡ through (colon_residual (Object ∷ marks)) o
  name None is = refl
  name (Some named) is = colon named (shorter_name 0 text named is) (after_colon named) refl

spaces_on : (c : ℕ) (text : List ℕ) → is_white_space c ≡ true → after_spaces (c ∷ text) ≡ after_spaces text
spaces_on c text space = rw space refl

-- white space before an item
pub item_space : (marks : List Container) (kind : Container) (c : ℕ) (text : List ℕ) → is_white_space c ≡ true
    → item_residual (kind ∷ marks) (c ∷ text) ≡ item_residual (kind ∷ marks) text
item_space marks Array c text space =
    item_of_array marks (c ∷ text)
    ∙ ap (λ t. through (after_residual (Array ∷ marks)) (after_whole_value (1024 - length (Array ∷ marks)) t)) (spaces_on c text space)
    ∙ sym (item_of_array marks text)
item_space marks Object c text space =
    item_of_object marks (c ∷ text)
    ∙ ap (λ t. through (colon_residual (Object ∷ marks)) (option_and_then after_string (after_char 0x22 t))) (spaces_on c text space)
    ∙ sym (item_of_object marks text)

pub first_space : (marks : List Container) (c : ℕ) (text : List ℕ) → is_white_space c ≡ true → first_residual marks (c ∷ text) ≡ first_residual marks text
first_space [] c text space = refl
first_space (kind ∷ marks) c text space =
    rw space (either (after_char (close_of kind) (after_spaces text))) where
      either : (o : Option (List ℕ)) → through (after_residual marks) (option_or o (items_in marks kind (c ∷ text))) ≡ through (after_residual marks) (option_or o (items_in marks kind text))
      either None = item_space marks kind c text space
      either (Some rest) = refl

-- ---- strings

none_either : (v : Bool) (o : Option (List ℕ)) → o ≡ None → cond v o None ≡ None
none_either true o is = is
none_either false o is = refl

pub hexes : (text : List ℕ) → after_hexes 4 text ≡ after_hex text
hexes [] = refl
hexes (a ∷ []) = none_either (is_ascii_hexdigit a) None refl
hexes (a ∷ b ∷ []) = none_either (is_ascii_hexdigit a) _ (none_either (is_ascii_hexdigit b) None refl)
hexes (a ∷ b ∷ c ∷ []) =
    none_either (is_ascii_hexdigit a) _ (none_either (is_ascii_hexdigit b) _ (none_either (is_ascii_hexdigit c) None refl))
hexes (a ∷ b ∷ c ∷ d ∷ text) = all (is_ascii_hexdigit a) (is_ascii_hexdigit b) (is_ascii_hexdigit c) (is_ascii_hexdigit d) where
  all : (v w x y : Bool) → cond v (cond w (cond x (cond y (Some text) None) None) None) None ≡ cond (((v && w) && x) && y) (Some text) None
  all true true true y = refl
  all true true false y = refl
  all true false x y = refl
  all false w x y = refl

-- what comes in a string
pub text_ends : (r : Role) (marks : List Container) (text : List ℕ) → residual_of_text r marks (Some (0x22 ∷ text)) ≡ after_string_residual r marks text
unfolding after_chars
text_ends r marks text = refl

pub text_escape : (r : Role) (marks : List Container) (text : List ℕ) → residual_of_text r marks (Some (0x5C ∷ text)) ≡ residual_of_text r marks (after_escape text)
unfolding after_chars
text_escape r marks text = ap (through (after_string_residual r marks)) (go_on (after_escape text) refl) where
  go_on : (o : Option (List ℕ)) → after_escape text ≡ o → option_and_then (after_chars (suc (length text))) o ≡ option_and_then after_string o
  go_on None is = refl
  go_on (Some rest) is =
      let cut = escape-cut text rest is in
      let fewer = char-longer cut.0 rest in
      let long = ap length cut.2 in
      chars_fuel (suc (length text)) (suc (length rest)) rest (omega arith) (omega arith)

pub text_plain : (r : Role) (marks : List Container) (c : ℕ) (text : List ℕ) → (c == 0x22) ≡ false → (c == 0x5C) ≡ false → is_unescaped c ≡ true
    → residual_of_text r marks (Some (c ∷ text)) ≡ residual_of_text r marks (Some text)
unfolding after_chars
text_plain r marks c text quote escape plain = rw (quote, escape, plain) refl

pub text_control : (r : Role) (marks : List Container) (c : ℕ) (text : List ℕ) → (c == 0x22) ≡ false → (c == 0x5C) ≡ false → is_unescaped c ≡ false
    → residual_of_text r marks (Some (c ∷ text)) ≡ false
unfolding after_chars
text_control r marks c text quote escape plain = rw (quote, escape, plain) refl

-- ---- items by their marks

pub name_space : (marks : List Container) (c : ℕ) (text : List ℕ) → is_white_space c ≡ true
    → item_residual (Object ∷ marks) text ≡ name_residual (Object ∷ marks) (c ∷ text)
name_space marks c text space = sym (item_space marks Object c text space) ∙ item_of_object marks (c ∷ text)

pub array_at : (marks : List Container) (step : Step) (c : ℕ) (text : List ℕ) → mark_of marks ≡ Some Array
    → moved step marks text ≡ value_residual marks (c ∷ text) → moved step marks text ≡ item_residual marks (c ∷ text)
array_at [] step c text is same = absurd (cc)
array_at (Array ∷ marks) step c text is same = same ∙ sym (item_of_array marks (c ∷ text))
array_at (Object ∷ marks) step c text is same = absurd (cc)

pub object_at : (marks : List Container) (step : Step) (c : ℕ) (text : List ℕ) → mark_of marks ≡ Some Object
    → ((rest : List Container) → moved step (Object ∷ rest) text ≡ name_residual (Object ∷ rest) (c ∷ text))
    → moved step marks text ≡ item_residual marks (c ∷ text)
object_at [] step c text is same = absurd (cc)
object_at (Object ∷ marks) step c text is same = same marks ∙ sym (item_of_object marks (c ∷ text))
object_at (Array ∷ marks) step c text is same = absurd (cc)
