-- The grammar of JSON texts (RFC 8259), over characters, which are Unicode scalar values.
--
-- A tree is a derivation: it holds what the grammar leaves free, white space included, and is
-- spelled before what follows it. White space stands on both sides of a structural character,
-- so of an element, a name and a value; in an array or an object of none it stands once.
use Rattle.std.specs.Prelude.{◌≡◌, ℕ, suc, ◌≤◌, max, ⊤, Bool, true, ◌||◌, ◌==◌, List, [], ◌∷◌, ◌++◌, codes}
use Rattle.std.specs.List.{list_all}
use Rattle.std.specs.Int.{is_in_range}
use Rattle.std.specs.Char.{is_ascii_digit, is_ascii_hexdigit}
use Rattle.json_recogniser.specs.Characters.{horizontal_tab, line_feed, carriage_return, space, quotation_mark, plus_sign, comma, minus_sign, full_stop, solidus, digit_zero, digit_one, digit_nine, colon, capital_e, left_square_bracket, reverse_solidus, right_square_bracket, small_b, small_e, small_f, small_n, small_r, small_t, small_u, left_curly_bracket, right_curly_bracket}

-- ---- section 2: white space

-- space, horizontal tab, line feed, carriage return
abbrev pub is_white_space : ℕ → Bool
is_white_space c = ((c == space) || (c == horizontal_tab)) || ((c == line_feed) || (c == carriage_return))

abbrev pub AreSpaces : List ℕ → Type 0
AreSpaces ws = list_all is_white_space ws ≡ true

-- ---- section 6: numbers

-- digit1-9
abbrev pub is_digit_from_1 : ℕ → Bool
is_digit_from_1 c = is_in_range digit_one digit_nine c

-- DIGIT of RFC 5234: 0 to 9
abbrev pub AreDigits : List ℕ → Type 0
AreDigits ds = list_all is_ascii_digit ds ≡ true

-- `-`, or nothing
pub data Minus : Type 0 where
  no_minus : Minus
  minus : Minus

-- int = zero / ( digit1-9 *DIGIT )
pub data Int : Type 0 where
  zero_alone : Int
  from_1 : (first : ℕ) → (further : List ℕ) → Int

-- frac = decimal-point 1*DIGIT, or nothing
pub data Frac : Type 0 where
  no_frac : Frac
  frac : (first : ℕ) → (further : List ℕ) → Frac

-- [ minus / plus ] of an exponent
pub data Sign : Type 0 where
  no_sign : Sign
  sign : ℕ → Sign

-- exp = e [ minus / plus ] 1*DIGIT, or nothing
pub data Exp : Type 0 where
  no_exp : Exp
  exp : (e : ℕ) → Sign → (first : ℕ) → (further : List ℕ) → Exp

-- number = [ minus ] int [ frac ] [ exp ]
pub record Number : Type 0 where
  pub minus_part : Minus
  pub int_part : Int
  pub frac_part : Frac
  pub exp_part : Exp

-- `e`, `E`
abbrev pub is_e : ℕ → Bool
is_e c = (c == small_e) || (c == capital_e)

-- `-`, `+`
abbrev pub is_sign : ℕ → Bool
is_sign c = (c == minus_sign) || (c == plus_sign)

abbrev pub IsGoodInt : Int → Type 0
IsGoodInt zero_alone = ⊤
IsGoodInt (from_1 d ds) = (is_digit_from_1 d ≡ true) × AreDigits ds

abbrev pub IsGoodFrac : Frac → Type 0
IsGoodFrac no_frac = ⊤
IsGoodFrac (frac d ds) = (is_ascii_digit d ≡ true) × AreDigits ds

abbrev pub IsGoodSign : Sign → Type 0
IsGoodSign no_sign = ⊤
IsGoodSign (sign c) = is_sign c ≡ true

abbrev pub IsGoodExp : Exp → Type 0
IsGoodExp no_exp = ⊤
IsGoodExp (exp e s d ds) = (is_e e ≡ true) × IsGoodSign s × (is_ascii_digit d ≡ true) × AreDigits ds

abbrev pub IsGoodNumber : Number → Type 0
IsGoodNumber n = IsGoodInt n.int_part × IsGoodFrac n.frac_part × IsGoodExp n.exp_part

abbrev pub minus_text : Minus → List ℕ → List ℕ
minus_text no_minus rest = rest
minus_text minus rest = minus_sign ∷ rest

abbrev pub int_text : Int → List ℕ → List ℕ
int_text zero_alone rest = digit_zero ∷ rest
int_text (from_1 d ds) rest = d ∷ (ds ++ rest)

abbrev pub frac_text : Frac → List ℕ → List ℕ
frac_text no_frac rest = rest
frac_text (frac d ds) rest = full_stop ∷ d ∷ (ds ++ rest)

abbrev pub sign_text : Sign → List ℕ → List ℕ
sign_text no_sign rest = rest
sign_text (sign c) rest = c ∷ rest

abbrev pub exp_text : Exp → List ℕ → List ℕ
exp_text no_exp rest = rest
exp_text (exp e s d ds) rest = e ∷ sign_text s (d ∷ (ds ++ rest))

abbrev pub number_text : Number → List ℕ → List ℕ
number_text n rest = minus_text n.minus_part (int_text n.int_part (frac_text n.frac_part (exp_text n.exp_part rest)))

-- ---- section 7: strings

-- char = unescaped / escape and what stands after it
pub data Char : Type 0 where
  unescaped : ℕ → Char
  -- escape ( `"` / `\` / `/` / `b` / `f` / `n` / `r` / `t` )
  escaped : ℕ → Char
  -- escape `u` 4HEXDIG
  unicode : ℕ → ℕ → ℕ → ℕ → Char

-- unescaped = %x20-21 / %x23-5B / %x5D-10FFFF
abbrev pub is_unescaped : ℕ → Bool
is_unescaped c = (is_in_range 0x20 0x21 c || is_in_range 0x23 0x5B c) || is_in_range 0x5D 0x10FFFF c

abbrev pub is_escaped : ℕ → Bool
is_escaped c =
    (((c == quotation_mark) || (c == reverse_solidus)) || ((c == solidus) || (c == small_b)))
    || (((c == small_f) || (c == small_n)) || ((c == small_r) || (c == small_t)))

abbrev pub IsGoodChar : Char → Type 0
IsGoodChar (unescaped c) = is_unescaped c ≡ true
IsGoodChar (escaped c) = is_escaped c ≡ true
IsGoodChar (unicode a b c d) =
    (is_ascii_hexdigit a ≡ true) × (is_ascii_hexdigit b ≡ true) × (is_ascii_hexdigit c ≡ true) × (is_ascii_hexdigit d ≡ true)

abbrev pub AreGoodChars : List Char → Type 0
AreGoodChars [] = ⊤
AreGoodChars (c ∷ cs) = IsGoodChar c × AreGoodChars cs

abbrev pub char_text : Char → List ℕ → List ℕ
char_text (unescaped c) rest = c ∷ rest
char_text (escaped c) rest = reverse_solidus ∷ c ∷ rest
char_text (unicode a b c d) rest = reverse_solidus ∷ small_u ∷ a ∷ b ∷ c ∷ d ∷ rest

-- *char quotation-mark
abbrev pub chars_text : List Char → List ℕ → List ℕ
chars_text [] rest = quotation_mark ∷ rest
chars_text (c ∷ cs) rest = char_text c (chars_text cs rest)

-- quotation-mark *char quotation-mark
abbrev pub string_text : List Char → List ℕ → List ℕ
string_text cs rest = quotation_mark ∷ chars_text cs rest

-- ---- sections 3 to 5: values, objects, arrays

mutual
  pub data Value : Type 0 where
    false_literal : Value
    null_literal : Value
    true_literal : Value
    object_of_none : (ws : List ℕ) → Value
    object : Members → Value
    array_of_none : (ws : List ℕ) → Value
    array : Elements → Value
    number : Number → Value
    string : List Char → Value

  -- one member or more, with commas between them
  pub data Members : Type 0 where
    last_member : Member → Members
    member_and : Member → Members → Members

  -- a name, a colon and a value, with the white space around each of both
  pub data Member : Type 0 where
    member : (before : List ℕ) → (name : List Char) → (after : List ℕ) → Element → Member

  -- one element or more, with commas between them
  pub data Elements : Type 0 where
    last_element : Element → Elements
    element_and : Element → Elements → Elements

  -- a value with the white space around it
  pub data Element : Type 0 where
    element : (before : List ℕ) → Value → (after : List ℕ) → Element

abbrev mutual
  pub IsGood : Value → Type 0
  IsGood false_literal = ⊤
  IsGood null_literal = ⊤
  IsGood true_literal = ⊤
  IsGood (object_of_none ws) = AreSpaces ws
  IsGood (object ms) = AreGoodMembers ms
  IsGood (array_of_none ws) = AreSpaces ws
  IsGood (array es) = AreGoodElements es
  IsGood (number n) = IsGoodNumber n
  IsGood (string cs) = AreGoodChars cs

  pub AreGoodMembers : Members → Type 0
  AreGoodMembers (last_member m) = IsGoodMember m
  AreGoodMembers (member_and m ms) = IsGoodMember m × AreGoodMembers ms

  pub IsGoodMember : Member → Type 0
  IsGoodMember (member before name after e) =
      AreSpaces before × AreGoodChars name × AreSpaces after × IsGoodElement e

  pub AreGoodElements : Elements → Type 0
  AreGoodElements (last_element e) = IsGoodElement e
  AreGoodElements (element_and e es) = IsGoodElement e × AreGoodElements es

  pub IsGoodElement : Element → Type 0
  IsGoodElement (element before v after) = AreSpaces before × IsGood v × AreSpaces after

-- the greatest number of arrays and objects inside one another
abbrev mutual
  pub depth : Value → ℕ
  depth false_literal = 0
  depth null_literal = 0
  depth true_literal = 0
  depth (object_of_none ws) = 1
  depth (object ms) = suc (members_depth ms)
  depth (array_of_none ws) = 1
  depth (array es) = suc (elements_depth es)
  depth (number n) = 0
  depth (string cs) = 0

  pub members_depth : Members → ℕ
  members_depth (last_member m) = member_depth m
  members_depth (member_and m ms) = max (member_depth m) (members_depth ms)

  pub member_depth : Member → ℕ
  member_depth (member before name after e) = element_depth e

  pub elements_depth : Elements → ℕ
  elements_depth (last_element e) = element_depth e
  elements_depth (element_and e es) = max (element_depth e) (elements_depth es)

  pub element_depth : Element → ℕ
  element_depth (element before v after) = depth v

abbrev mutual
  pub value_text : Value → List ℕ → List ℕ
  value_text false_literal rest = codes "false" ++ rest
  value_text null_literal rest = codes "null" ++ rest
  value_text true_literal rest = codes "true" ++ rest
  value_text (object_of_none ws) rest = left_curly_bracket ∷ (ws ++ (right_curly_bracket ∷ rest))
  value_text (object ms) rest = left_curly_bracket ∷ members_text ms (right_curly_bracket ∷ rest)
  value_text (array_of_none ws) rest = left_square_bracket ∷ (ws ++ (right_square_bracket ∷ rest))
  value_text (array es) rest = left_square_bracket ∷ elements_text es (right_square_bracket ∷ rest)
  value_text (number n) rest = number_text n rest
  value_text (string cs) rest = string_text cs rest

  pub members_text : Members → List ℕ → List ℕ
  members_text (last_member m) rest = member_text m rest
  members_text (member_and m ms) rest = member_text m (comma ∷ members_text ms rest)

  pub member_text : Member → List ℕ → List ℕ
  member_text (member before name after e) rest =
      before ++ string_text name (after ++ (colon ∷ element_text e rest))

  pub elements_text : Elements → List ℕ → List ℕ
  elements_text (last_element e) rest = element_text e rest
  elements_text (element_and e es) rest = element_text e (comma ∷ elements_text es rest)

  pub element_text : Element → List ℕ → List ℕ
  element_text (element before v after) rest = before ++ value_text v (after ++ rest)

-- JSON-text = ws value ws, of a depth of at most 1,024 (section 9 leaves a limit to the parser)
pub record IsJson (characters : List ℕ) : Type 0 where
  pub tree : Element
  pub good : IsGoodElement tree
  pub shallow : element_depth tree ≤ 1024
  pub spells : characters ≡ element_text tree []
