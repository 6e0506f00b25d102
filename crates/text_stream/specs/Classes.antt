-- The classes of characters of scripts (ECMA-262 5.1, sections 7.2, 7.3 and 7.6), over the general
-- categories of the Unicode Standard. A character is a Unicode scalar value.
use Rattle.std.specs.Prelude.{◌≡◌, ◌↔◌, ◌⊎◌, ℕ, IsTrue, Bool, true, false, ◌||◌, ◌&&◌, ◌==◌, nat_le, if◌then◌else◌}
use Rattle.ucd_category.specs.GeneralCategory.{general_category}
use Rattle.ucd_category.specs.declared.GeneralCategory.{GeneralCategory}
use Rattle.ucd_category.specs.declared.GeneralCategory.TheVariants.{UppercaseLetter, LowercaseLetter, TitlecaseLetter, ModifierLetter, OtherLetter, NonspacingMark, SpacingMark, DecimalNumber, LetterNumber, ConnectorPunctuation, SpaceSeparator}
use Rattle.text_stream.specs.Characters.{tab, line_feed, vertical_tab, form_feed, carriage_return, space, dollar_sign, low_line, no_break_space, zero_width_non_joiner, zero_width_joiner, line_separator, paragraph_separator, zero_width_no_break_space, last_of_one_unit}
use Rattle.text_stream.specs.declared.classes.CharClass.{CharClass}
use Rattle.text_stream.specs.declared.classes.CharClass.TheVariants.{LineEnd, Space, NameStart, NamePart, Other}

-- LineTerminator (section 7.3): LF, CR, and the separators of lines and of paragraphs
abbrev pub is_line_terminator : ℕ → Bool
is_line_terminator c = ((c == line_feed) || (c == carriage_return)) || ((c == line_separator) || (c == paragraph_separator))

-- Zs
abbrev pub is_space_separator : GeneralCategory → Bool
is_space_separator SpaceSeparator = true
is_space_separator _ = false

-- WhiteSpace (section 7.2) by name: TAB, VT, FF, SP, NBSP, BOM
abbrev pub is_named_space : ℕ → Bool
is_named_space c =
    (((c == tab) || (c == vertical_tab)) || ((c == form_feed) || (c == space))) || ((c == no_break_space) || (c == zero_width_no_break_space))

-- UnicodeLetter (section 7.6): Lu, Ll, Lt, Lm, Lo, Nl
abbrev pub is_letter : GeneralCategory → Bool
is_letter UppercaseLetter = true
is_letter LowercaseLetter = true
is_letter TitlecaseLetter = true
is_letter ModifierLetter = true
is_letter OtherLetter = true
is_letter LetterNumber = true
is_letter _ = false

-- UnicodeCombiningMark, UnicodeDigit and UnicodeConnectorPunctuation (section 7.6): Mn, Mc, Nd, Pc
abbrev pub is_mark_digit_or_connector : GeneralCategory → Bool
is_mark_digit_or_connector NonspacingMark = true
is_mark_digit_or_connector SpacingMark = true
is_mark_digit_or_connector DecimalNumber = true
is_mark_digit_or_connector ConnectorPunctuation = true
is_mark_digit_or_connector _ = false

-- one code unit of UTF-16 writes the character
abbrev pub is_one_unit : ℕ → Bool
is_one_unit c = nat_le c last_of_one_unit

-- the sets, with the general category of the character given
abbrev pub is_white_space_of : GeneralCategory → ℕ → Bool
is_white_space_of category c = is_named_space c || is_space_separator category

-- IdentifierStart without escapes: a letter, `$`, `_`
abbrev pub is_name_start_of : GeneralCategory → ℕ → Bool
is_name_start_of category c =
    is_one_unit c && (is_letter category || ((c == dollar_sign) || (c == low_line)))

-- what IdentifierPart without escapes has beside IdentifierStart: marks, digits, connectors (`_` is
-- one), ZWNJ, ZWJ
abbrev pub is_further_part_of : GeneralCategory → ℕ → Bool
is_further_part_of category c =
    is_one_unit c && (is_mark_digit_or_connector category || ((c == zero_width_non_joiner) || (c == zero_width_joiner)))

-- the class of a character of the category
abbrev pub class_in : GeneralCategory → ℕ → CharClass
class_in category c =
    if is_line_terminator c then LineEnd
    else if is_white_space_of category c then Space
    else if is_name_start_of category c then NameStart
    else if is_further_part_of category c then NamePart
    else Other

-- the sets of the standard
abbrev pub is_white_space : ℕ → Bool
is_white_space c = is_white_space_of (general_category c) c

abbrev pub is_name_start : ℕ → Bool
is_name_start c = is_name_start_of (general_category c) c

abbrev pub is_name_part : ℕ → Bool
is_name_part c = is_name_start c || is_further_part_of (general_category c) c

-- the class of a character
unfoldable pub class_of : ℕ → CharClass
class_of c = class_in (general_category c) c

-- each class is the standard's set, and a name part is of one of two
pub record IsOfItsSets (c : ℕ) : Type 0 where
  pub line_end : (class_of c ≡ LineEnd) ↔ IsTrue (is_line_terminator c)
  pub space : (class_of c ≡ Space) ↔ IsTrue (is_white_space c)
  pub name_start : (class_of c ≡ NameStart) ↔ IsTrue (is_name_start c)
  pub name_part : ((class_of c ≡ NameStart) ⊎ (class_of c ≡ NamePart)) ↔ IsTrue (is_name_part c)
