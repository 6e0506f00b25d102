-- What has a tree is read: where the text is a piece as a tree spells it and what follows it, the
-- call gives what follows. A number must not go on, and white space neither.
use Rattle.std.proofs.Common.{◌≡◌, ℕ, zero, suc, ◌==◌, ◌&&◌, ◌||◌, ◌<◌, ◌≤◌, Bool, true, false, not, List, [], ◌∷◌, ◌++◌, Option, Some, None, length, refl, ap, ◌∙◌, arith, option_and_then, option_map}
use Rattle.std.specs.Option.{option_or}
use Rattle.std.specs.List.{list_all}
use Rattle.std.specs.Char.{is_ascii_digit, is_ascii_hexdigit}
use Rattle.std.proofs.lemmas.Bool.{cond-true, cond-false, not-true, and_parts, and_from, or_parts, not_from_false}
use Rattle.std.proofs.lemmas.Bool.Decides.{nat_tests}
use Rattle.json_recogniser.specs.Grammar.{is_white_space, AreSpaces, AreDigits, is_digit_from_1, is_e, is_sign, Minus, no_minus, minus, Int, zero_alone, from_1, Frac, no_frac, frac, Sign, no_sign, sign, Exp, no_exp, exp, Number, IsGoodInt, IsGoodFrac, IsGoodSign, IsGoodExp, IsGoodNumber, minus_text, int_text, frac_text, sign_text, exp_text, number_text, Char, unescaped, escaped, unicode, is_unescaped, is_escaped, IsGoodChar, AreGoodChars, char_text, chars_text, string_text, Value, false_literal, null_literal, true_literal, object_of_none, object, array_of_none, array, number, string, Members, last_member, member_and, Member, member, Elements, last_element, element_and, Element, element, IsGood, AreGoodMembers, IsGoodMember, AreGoodElements, IsGoodElement, depth, members_depth, member_depth, elements_depth, element_depth, value_text, members_text, member_text, elements_text, element_text, IsJson}
use Rattle.json_recogniser.specs.Reading.{without_leading, after_char, after_digits, after_minus, after_int, after_frac, after_sign, after_exp, after_number, after_string_char, after_chars, after_string, after_spaces, after_separator, after_items, after_value_by, after_element_by, after_colon, after_member_by, after_contents, after_element}
use Rattle.json_recogniser.specs.declared.states.Container.{Container}
use Rattle.std.proofs.Math.Nat.{le-max_left, le-max_right}
use Rattle.std.proofs.lemmas.List.{length-append}

-- the text doesn't begin with a character of the class
abbrev pub starts_not : (ℕ → Bool) → List ℕ → Bool
starts_not class [] = true
starts_not class (c ∷ text) = not (class c)

pub leading-all : (class : ℕ → Bool) (prefix rest : List ℕ) → list_all class prefix ≡ true → starts_not class rest ≡ true → without_leading class (prefix ++ rest) ≡ rest
leading-all class [] [] all stops = refl
leading-all class [] (c ∷ rest) all stops = cond-false (class c) _ _ (not-true (class c) stops)
leading-all class (c ∷ prefix) rest all stops =
    let p = and_parts (class c) (list_all class prefix) all in
    cond-true (class c) _ _ p.0 ∙ leading-all class prefix rest p.1 stops

-- ---- numbers

-- the character could carry a number on
abbrev pub carries_on : ℕ → Bool
carries_on c = (is_ascii_digit c || (c == 0x2E)) || is_e c

no_digit : (rest : List ℕ) → starts_not carries_on rest ≡ true → starts_not is_ascii_digit rest ≡ true
no_digit [] stops = refl
no_digit (c ∷ rest) stops =
    let none = or_parts (is_ascii_digit c || (c == 0x2E)) (is_e c) (not-true _ stops) in
    not_from_false _ (or_parts (is_ascii_digit c) (c == 0x2E) none.0).0

digits-read : (d : ℕ) (ds rest : List ℕ) → is_ascii_digit d ≡ true → AreDigits ds → starts_not is_ascii_digit rest ≡ true → after_digits (d ∷ (ds ++ rest)) ≡ Some rest
digits-read d ds rest first all stops =
    cond-true (is_ascii_digit d) _ _ first ∙ ap (λ t. Some t) (leading-all is_ascii_digit ds rest all stops)

digit-no_sign : (d : ℕ) → is_ascii_digit d ≡ true → is_sign d ≡ false
digit-no_sign d is = grind (arith, nat_tests)

sign-read : (s : Sign) (d : ℕ) (rest : List ℕ) → IsGoodSign s → is_ascii_digit d ≡ true → after_sign (sign_text s (d ∷ rest)) ≡ d ∷ rest
sign-read no_sign d rest good is = cond-false (is_sign d) _ _ (digit-no_sign d is)
sign-read (sign c) d rest good is = cond-true (is_sign c) _ _ good

exp-read : (x : Exp) (rest : List ℕ) → IsGoodExp x → starts_not carries_on rest ≡ true → after_exp (exp_text x rest) ≡ Some rest
exp-read no_exp [] good stops = refl
exp-read no_exp (c ∷ rest) good stops =
    cond-false (is_e c) _ _ (or_parts (is_ascii_digit c || (c == 0x2E)) (is_e c) (not-true _ stops)).1
exp-read (exp e s d ds) rest good stops =
    cond-true (is_e e) _ _ good.0 ∙ ap after_digits (sign-read s d (ds ++ rest) good.1 good.2)
    ∙ digits-read d ds rest good.2 good.3 (no_digit rest stops)

-- neither a digit nor a point
abbrev is_digit_or_point : ℕ → Bool
is_digit_or_point c = is_ascii_digit c || (c == 0x2E)

e-no_digit : (e : ℕ) → is_e e ≡ true → not (is_digit_or_point e) ≡ true
e-no_digit e is = grind (arith, nat_tests)

exp-starts : (x : Exp) (rest : List ℕ) → IsGoodExp x → starts_not carries_on rest ≡ true → starts_not is_digit_or_point (exp_text x rest) ≡ true
exp-starts no_exp [] good stops = refl
exp-starts no_exp (c ∷ rest) good stops =
    not_from_false _ (or_parts (is_ascii_digit c || (c == 0x2E)) (is_e c) (not-true _ stops)).0
exp-starts (exp e s d ds) rest good stops = e-no_digit e good.0

no_point : (text : List ℕ) → starts_not is_digit_or_point text ≡ true → after_frac text ≡ Some text
no_point [] stops = refl
no_point (c ∷ text) stops =
    cond-false (c == 0x2E) _ _ (or_parts (is_ascii_digit c) (c == 0x2E) (not-true _ stops)).1

point-digit : (text : List ℕ) → starts_not is_digit_or_point text ≡ true → starts_not is_ascii_digit text ≡ true
point-digit [] stops = refl
point-digit (c ∷ text) stops = not_from_false _ (or_parts (is_ascii_digit c) (c == 0x2E) (not-true _ stops)).0

frac-read : (f : Frac) (rest : List ℕ) → IsGoodFrac f → starts_not is_digit_or_point rest ≡ true → after_frac (frac_text f rest) ≡ Some rest
frac-read no_frac rest good stops = no_point rest stops
frac-read (frac d ds) rest good stops = digits-read d ds rest good.0 good.1 (point-digit rest stops)

frac-starts : (f : Frac) (rest : List ℕ) → starts_not is_digit_or_point rest ≡ true → starts_not is_ascii_digit (frac_text f rest) ≡ true
frac-starts no_frac rest stops = point-digit rest stops
frac-starts (frac d ds) rest stops = refl

digit-no_zero : (d : ℕ) → is_digit_from_1 d ≡ true → (d == 0x30) ≡ false
digit-no_zero d is = grind (arith, nat_tests)

digit-no_minus : (d : ℕ) → is_digit_from_1 d ≡ true → (d == 0x2D) ≡ false
digit-no_minus d is = grind (arith, nat_tests)

int-read : (i : Int) (rest : List ℕ) → IsGoodInt i → starts_not is_ascii_digit rest ≡ true → after_int (int_text i rest) ≡ Some rest
int-read zero_alone rest good stops = refl
int-read (from_1 d ds) rest good stops =
    cond-false (d == 0x30) _ _ (digit-no_zero d good.0) ∙ cond-true (is_digit_from_1 d) _ _ good.0
    ∙ ap (λ t. Some t) (leading-all is_ascii_digit ds rest good.1 stops)

minus-read : (m : Minus) (i : Int) (rest : List ℕ) → IsGoodInt i → after_minus (minus_text m (int_text i rest)) ≡ int_text i rest
minus-read minus i rest good = refl
minus-read no_minus zero_alone rest good = refl
minus-read no_minus (from_1 d ds) rest good = cond-false (d == 0x2D) _ _ (digit-no_minus d good.0)

pub number-read : (n : Number) (rest : List ℕ) → IsGoodNumber n → starts_not carries_on rest ≡ true → after_number (number_text n rest) ≡ Some rest
number-read n rest good stops =
    let x = exp-starts n.exp_part rest good.2 stops in
    ap (λ t. option_and_then after_exp (option_and_then after_frac (after_int t))) (minus-read n.minus_part n.int_part _ good.0)
    ∙ ap (λ o. option_and_then after_exp (option_and_then after_frac o)) (int-read n.int_part _ good.0 (frac-starts n.frac_part _ x))
    ∙ ap (λ o. option_and_then after_exp o) (frac-read n.frac_part _ good.1 x)
    ∙ exp-read n.exp_part rest good.2 stops

-- ---- strings

unescaped-no_escape : (c : ℕ) → is_unescaped c ≡ true → (c == 0x5C) ≡ false
unescaped-no_escape c is = grind (arith, nat_tests)

unescaped-no_end : (c : ℕ) → is_unescaped c ≡ true → (c == 0x22) ≡ false
unescaped-no_end c is = grind (arith, nat_tests)

escaped-no_u : (c : ℕ) → is_escaped c ≡ true → (c == 0x75) ≡ false
escaped-no_u c is = grind (arith, nat_tests)

char-read : (ch : Char) (rest : List ℕ) → IsGoodChar ch → after_string_char (char_text ch rest) ≡ Some rest
char-read (unescaped c) rest good =
    cond-false (c == 0x5C) _ _ (unescaped-no_escape c good) ∙ cond-true (is_unescaped c) _ _ good
char-read (escaped c) rest good = cond-false (c == 0x75) _ _ (escaped-no_u c good) ∙ cond-true (is_escaped c) _ _ good
char-read (unicode a b c d) rest good =
    cond-true (((is_ascii_hexdigit a && is_ascii_hexdigit b) && is_ascii_hexdigit c) && is_ascii_hexdigit d) _ _
    (and_from _ _ (and_from _ _ (and_from _ _ good.0 good.1) good.2) good.3)

char-no_end : (ch : Char) (rest : List ℕ) → IsGoodChar ch → after_char 0x22 (char_text ch rest) ≡ None
char-no_end (unescaped c) rest good = cond-false (c == 0x22) _ _ (unescaped-no_end c good)
char-no_end (escaped c) rest good = refl
char-no_end (unicode a b c d) rest good = refl

pub char-longer : (ch : Char) (rest : List ℕ) → length rest < length (char_text ch rest)
char-longer (unescaped c) rest = omega arith
char-longer (escaped c) rest = omega arith
char-longer (unicode a b c d) rest = omega arith

pub chars-read : (cs : List Char) (n : ℕ) (rest : List ℕ) → AreGoodChars cs → length (chars_text cs rest) < n → after_chars n (chars_text cs rest) ≡ Some rest
unfolding after_chars
chars-read cs zero rest good more = absurd (omega arith)
chars-read [] (suc n) rest good more = refl
chars-read (c ∷ cs) (suc n) rest good more =
    let longer = char-longer c (chars_text cs rest) in
    ap (λ o. option_or o (option_and_then (after_chars n) (after_string_char (char_text c (chars_text cs rest))))) (char-no_end c _ good.0)
    ∙ ap (λ o. option_and_then (after_chars n) o) (char-read c _ good.0)
    ∙ chars-read cs n rest good.1 (omega arith)

-- ---- lengths

number-longer : (n : Number) (rest : List ℕ) → length rest < length (number_text n rest)
number-longer n rest =
    let x = exp-longer n.exp_part rest in
    let f = frac-longer n.frac_part (exp_text n.exp_part rest) in
    let i = int-longer n.int_part (frac_text n.frac_part (exp_text n.exp_part rest)) in
    let m = minus-longer n.minus_part (int_text n.int_part (frac_text n.frac_part (exp_text n.exp_part rest))) in
    omega arith
  where
    minus-longer : (m : Minus) (rest : List ℕ) → length rest ≤ length (minus_text m rest)
    minus-longer no_minus rest = omega arith
    minus-longer minus rest = omega arith

    int-longer : (i : Int) (rest : List ℕ) → length rest < length (int_text i rest)
    int-longer zero_alone rest = omega arith
    int-longer (from_1 d ds) rest = omega (arith, length-append ds rest)

    frac-longer : (f : Frac) (rest : List ℕ) → length rest ≤ length (frac_text f rest)
    frac-longer no_frac rest = omega arith
    frac-longer (frac d ds) rest = omega (arith, length-append ds rest)

    sign-longer : (s : Sign) (rest : List ℕ) → length rest ≤ length (sign_text s rest)
    sign-longer no_sign rest = omega arith
    sign-longer (sign c) rest = omega arith

    exp-longer : (x : Exp) (rest : List ℕ) → length rest ≤ length (exp_text x rest)
    exp-longer no_exp rest = omega arith
    exp-longer (exp e s d ds) rest = let h = sign-longer s (d ∷ (ds ++ rest)) in omega (arith, length-append ds rest)

pub chars-longer : (cs : List Char) (rest : List ℕ) → length rest < length (chars_text cs rest)
chars-longer [] rest = omega arith
chars-longer (c ∷ cs) rest = let h = char-longer c (chars_text cs rest) in let k = chars-longer cs rest in omega arith

mutual
  pub value-longer : (v : Value) (rest : List ℕ) → length rest < length (value_text v rest)
  value-longer false_literal rest = omega arith
  value-longer null_literal rest = omega arith
  value-longer true_literal rest = omega arith
  value-longer (object_of_none ws) rest = omega (arith, length-append ws (0x7D ∷ rest))
  value-longer (object ms) rest = let h = members-longer ms (0x7D ∷ rest) in omega arith
  value-longer (array_of_none ws) rest = omega (arith, length-append ws (0x5D ∷ rest))
  value-longer (array es) rest = let h = elements-longer es (0x5D ∷ rest) in omega arith
  value-longer (number n) rest = number-longer n rest
  value-longer (string cs) rest = let h = chars-longer cs rest in omega arith

  members-longer : (ms : Members) (rest : List ℕ) → length rest < length (members_text ms rest)
  members-longer (last_member m) rest = member-longer m rest
  members-longer (member_and m ms) rest =
      let h = member-longer m (0x2C ∷ members_text ms rest) in let k = members-longer ms rest in omega arith

  pub member-longer : (m : Member) (rest : List ℕ) → length rest < length (member_text m rest)
  member-longer (member before name after e) rest =
      let h = element-longer e rest in
      let k = chars-longer name (after ++ (0x3A ∷ element_text e rest)) in
      omega (arith, length-append after (0x3A ∷ element_text e rest), length-append before (string_text name (after ++ (0x3A ∷ element_text e rest))))

  elements-longer : (es : Elements) (rest : List ℕ) → length rest < length (elements_text es rest)
  elements-longer (last_element e) rest = element-longer e rest
  elements-longer (element_and e es) rest =
      let h = element-longer e (0x2C ∷ elements_text es rest) in let k = elements-longer es rest in omega arith

  pub element-longer : (e : Element) (rest : List ℕ) → length rest < length (element_text e rest)
  element-longer (element before v after) rest =
      let h = value-longer v (after ++ rest) in
      omega (arith, length-append after rest, length-append before (value_text v (after ++ rest)))

-- ---- values

-- the character begins no value
abbrev begins_none : ℕ → Bool
begins_none c = is_white_space c || (c == 0x5D)

digit-begins : (d : ℕ) → is_digit_from_1 d ≡ true → not (begins_none d) ≡ true
digit-begins d is = grind (arith, nat_tests)

number-starts : (n : Number) (rest : List ℕ) → IsGoodNumber n → starts_not begins_none (number_text n rest) ≡ true
number-starts n rest good = starts n.minus_part n.int_part (frac_text n.frac_part (exp_text n.exp_part rest)) good.0
  where
    starts : (m : Minus) (i : Int) (t : List ℕ) → IsGoodInt i → starts_not begins_none (minus_text m (int_text i t)) ≡ true
    starts minus i t good = refl
    starts no_minus zero_alone t good = refl
    starts no_minus (from_1 d ds) t good = digit-begins d good.0

value-starts : (v : Value) (rest : List ℕ) → IsGood v → starts_not begins_none (value_text v rest) ≡ true
value-starts false_literal rest good = refl
value-starts null_literal rest good = refl
value-starts true_literal rest good = refl
value-starts (object_of_none ws) rest good = refl
value-starts (object ms) rest good = refl
value-starts (array_of_none ws) rest good = refl
value-starts (array es) rest good = refl
value-starts (number n) rest good = number-starts n rest good
value-starts (string cs) rest good = refl

no_space : (text : List ℕ) → starts_not begins_none text ≡ true → starts_not is_white_space text ≡ true
no_space [] stops = refl
no_space (c ∷ text) stops = not_from_false _ (or_parts (is_white_space c) (c == 0x5D) (not-true _ stops)).0

no_close : (text : List ℕ) → starts_not begins_none text ≡ true → after_char 0x5D text ≡ None
no_close [] stops = refl
no_close (c ∷ text) stops = cond-false (c == 0x5D) _ _ (or_parts (is_white_space c) (c == 0x5D) (not-true _ stops)).1

digit-not : (d c : ℕ) → is_digit_from_1 d ≡ true → 0x39 < c → (d == c) ≡ false
digit-not d c is more = grind (arith, nat_tests)

digit-no_mark : (d : ℕ) → is_digit_from_1 d ≡ true → (d == 0x22) ≡ false
digit-no_mark d is = grind (arith, nat_tests)

-- a number reads as a number, since no other value begins so
number-value : (contents : Container → List ℕ → Option (List ℕ)) (n : Number) (rest : List ℕ) → IsGoodNumber n → after_value_by contents (number_text n rest) ≡ after_number (number_text n rest)
number-value contents n rest good = by_first n.minus_part n.int_part (frac_text n.frac_part (exp_text n.exp_part rest)) good.0
  where
    by_first : (m : Minus) (i : Int) (t : List ℕ) → IsGoodInt i → after_value_by contents (minus_text m (int_text i t)) ≡ after_number (minus_text m (int_text i t))
    by_first minus i t good = refl
    by_first no_minus zero_alone t good = refl
    by_first no_minus (from_1 d ds) t good =
        cond-false (d == 0x5B) _ _ (digit-not d 0x5B good.0 (omega arith)) ∙ cond-false (d == 0x7B) _ _ (digit-not d 0x7B good.0 (omega arith))
        ∙ cond-false (d == 0x22) _ _ (digit-no_mark d good.0)
        ∙ cond-false (d == 0x66) _ _ (digit-not d 0x66 good.0 (omega arith)) ∙ cond-false (d == 0x6E) _ _ (digit-not d 0x6E good.0 (omega arith))
        ∙ cond-false (d == 0x74) _ _ (digit-not d 0x74 good.0 (omega arith))

-- the character could go on with a value or the white space after it
abbrev pub goes_on : ℕ → Bool
goes_on c = is_white_space c || carries_on c

space-stops : (c : ℕ) → is_white_space c ≡ true → not (carries_on c) ≡ true
space-stops c is = grind (arith, nat_tests)

stops_space : (rest : List ℕ) → starts_not goes_on rest ≡ true → starts_not is_white_space rest ≡ true
stops_space [] stops = refl
stops_space (c ∷ rest) stops = not_from_false _ (or_parts (is_white_space c) (carries_on c) (not-true _ stops)).0

stops_value : (ws rest : List ℕ) → AreSpaces ws → starts_not goes_on rest ≡ true → starts_not carries_on (ws ++ rest) ≡ true
stops_value [] [] all stops = refl
stops_value [] (c ∷ rest) all stops = not_from_false _ (or_parts (is_white_space c) (carries_on c) (not-true _ stops)).1
stops_value (c ∷ ws) rest all stops = space-stops c (and_parts (is_white_space c) (list_all is_white_space ws) all).0

element-open : (e : Element) (rest : List ℕ) → IsGoodElement e → after_char 0x5D (after_spaces (element_text e rest)) ≡ None
element-open (element before v after) rest good =
    let value = value_text v (after ++ rest) in
    let starts = value-starts v (after ++ rest) good.1 in
    ap (after_char 0x5D) (leading-all is_white_space before value good.0 (no_space value starts)) ∙ no_close value starts

member-open : (m : Member) (rest : List ℕ) → IsGoodMember m → after_char 0x7D (after_spaces (member_text m rest)) ≡ None
member-open (member before name after e) rest good =
    ap (after_char 0x7D) (leading-all is_white_space before (string_text name (after ++ (0x3A ∷ element_text e rest))) good.0 refl)

elements-open : (es : Elements) (rest : List ℕ) → AreGoodElements es → after_char 0x5D (after_spaces (elements_text es rest)) ≡ None
elements-open (last_element e) rest good = element-open e rest good
elements-open (element_and e es) rest good = element-open e (0x2C ∷ elements_text es rest) good.0

members-open : (ms : Members) (rest : List ℕ) → AreGoodMembers ms → after_char 0x7D (after_spaces (members_text ms rest)) ≡ None
members-open (last_member m) rest good = member-open m rest good
members-open (member_and m ms) rest good = member-open m (0x2C ∷ members_text ms rest) good.0

abbrev after_item : (List ℕ → Option (List ℕ)) → ℕ → ℕ → List ℕ → Option (List ℕ)
after_item item close n rest = after_separator (after_items item close n) (after_char 0x2C rest) close rest

mutual
  unfolding after_contents after_items

  value-read : (v : Value) (levels : ℕ) (rest : List ℕ) → IsGood v → depth v ≤ levels → starts_not carries_on rest ≡ true → after_value_by (after_contents levels) (value_text v rest) ≡ Some rest
  value-read false_literal levels rest good within stops = refl
  value-read null_literal levels rest good within stops = refl
  value-read true_literal levels rest good within stops = refl
  value-read (object_of_none ws) zero rest good within stops = absurd (omega arith)
  value-read (object_of_none ws) (suc levels) rest good within stops =
      let t = ws ++ (0x7D ∷ rest) in
      ap (λ s. option_or (after_char 0x7D s) (after_items (after_member_by (after_contents levels)) 0x7D (suc (length t)) t)) (leading-all is_white_space ws (0x7D ∷ rest) good refl)
  value-read (object ms) zero rest good within stops = absurd (omega arith)
  value-read (object ms) (suc levels) rest good within stops =
      let t = members_text ms (0x7D ∷ rest) in
      ap (λ o. option_or o (after_items (after_member_by (after_contents levels)) 0x7D (suc (length t)) t)) (members-open ms (0x7D ∷ rest) good)
      ∙ members-read ms levels (suc (length t)) rest good (omega arith) (omega arith)
  value-read (array_of_none ws) zero rest good within stops = absurd (omega arith)
  value-read (array_of_none ws) (suc levels) rest good within stops =
      let t = ws ++ (0x5D ∷ rest) in
      ap (λ s. option_or (after_char 0x5D s) (after_items (after_element_by (after_contents levels)) 0x5D (suc (length t)) t)) (leading-all is_white_space ws (0x5D ∷ rest) good refl)
  value-read (array es) zero rest good within stops = absurd (omega arith)
  value-read (array es) (suc levels) rest good within stops =
      let t = elements_text es (0x5D ∷ rest) in
      ap (λ o. option_or o (after_items (after_element_by (after_contents levels)) 0x5D (suc (length t)) t)) (elements-open es (0x5D ∷ rest) good)
      ∙ elements-read es levels (suc (length t)) rest good (omega arith) (omega arith)
  value-read (number n) levels rest good within stops =
      number-value (after_contents levels) n rest good ∙ number-read n rest good stops
  value-read (string cs) levels rest good within stops =
      chars-read cs (suc (length (chars_text cs rest))) rest good (omega arith)

  members-read : (ms : Members) (levels n : ℕ) (rest : List ℕ) → AreGoodMembers ms → members_depth ms ≤ levels → length (members_text ms (0x7D ∷ rest)) < n → after_items (after_member_by (after_contents levels)) 0x7D n (members_text ms (0x7D ∷ rest)) ≡ Some rest
  members-read ms levels zero rest good within more = absurd (omega arith)
  members-read (last_member m) levels (suc n) rest good within more =
      ap (λ o. option_and_then (after_item (after_member_by (after_contents levels)) 0x7D n) o) (member-read m levels (0x7D ∷ rest) good within refl)
  members-read (member_and m ms) levels (suc n) rest good within more =
      let others = members_text ms (0x7D ∷ rest) in
      let longer = member-longer m (0x2C ∷ others) in
      ap (λ o. option_and_then (after_item (after_member_by (after_contents levels)) 0x7D n) o) (member-read m levels (0x2C ∷ others) good.0 (omega (arith, le-max_left (member_depth m) (members_depth ms))) refl)
      ∙ members-read ms levels n rest good.1 (omega (arith, le-max_right (member_depth m) (members_depth ms))) (omega arith)

  member-read : (m : Member) (levels : ℕ) (rest : List ℕ) → IsGoodMember m → member_depth m ≤ levels → starts_not goes_on rest ≡ true → after_member_by (after_contents levels) (member_text m rest) ≡ Some rest
  member-read (member before name after e) levels rest good within stops =
      let value = element_text e rest in
      let colon = after ++ (0x3A ∷ value) in
      ap (λ s. option_and_then (after_element_by (after_contents levels)) (option_and_then after_colon (option_and_then after_string (after_char 0x22 s)))) (leading-all is_white_space before (string_text name colon) good.0 refl)
      ∙ ap (λ o. option_and_then (after_element_by (after_contents levels)) (option_and_then after_colon o)) (chars-read name (suc (length (chars_text name colon))) colon good.1 (omega arith))
      ∙ ap (λ s. option_and_then (after_element_by (after_contents levels)) (after_char 0x3A s)) (leading-all is_white_space after (0x3A ∷ value) good.2 refl)
      ∙ element-read e levels rest good.3 within stops

  elements-read : (es : Elements) (levels n : ℕ) (rest : List ℕ) → AreGoodElements es → elements_depth es ≤ levels → length (elements_text es (0x5D ∷ rest)) < n → after_items (after_element_by (after_contents levels)) 0x5D n (elements_text es (0x5D ∷ rest)) ≡ Some rest
  elements-read es levels zero rest good within more = absurd (omega arith)
  elements-read (last_element e) levels (suc n) rest good within more =
      ap (λ o. option_and_then (after_item (after_element_by (after_contents levels)) 0x5D n) o) (element-read e levels (0x5D ∷ rest) good within refl)
  elements-read (element_and e es) levels (suc n) rest good within more =
      let others = elements_text es (0x5D ∷ rest) in
      let longer = element-longer e (0x2C ∷ others) in
      ap (λ o. option_and_then (after_item (after_element_by (after_contents levels)) 0x5D n) o) (element-read e levels (0x2C ∷ others) good.0 (omega (arith, le-max_left (element_depth e) (elements_depth es))) refl)
      ∙ elements-read es levels n rest good.1 (omega (arith, le-max_right (element_depth e) (elements_depth es))) (omega arith)

  element-read : (e : Element) (levels : ℕ) (rest : List ℕ) → IsGoodElement e → element_depth e ≤ levels → starts_not goes_on rest ≡ true → after_element_by (after_contents levels) (element_text e rest) ≡ Some rest
  element-read (element before v after) levels rest good within stops =
      let value = value_text v (after ++ rest) in
      ap (λ s. option_map after_spaces (after_value_by (after_contents levels) s)) (leading-all is_white_space before value good.0 (no_space value (value-starts v (after ++ rest) good.1)))
      ∙ ap (λ o. option_map after_spaces o) (value-read v levels (after ++ rest) good.1 within (stops_value after rest good.2 stops))
      ∙ ap (λ s. Some s) (leading-all is_white_space after rest good.2 (stops_space rest stops))

pub complete : (text : List ℕ) → IsJson text → after_element 1024 text ≡ Some []
complete text json =
    ap (after_element 1024) json.spells ∙ element-read json.tree 1024 [] json.good json.shallow refl
