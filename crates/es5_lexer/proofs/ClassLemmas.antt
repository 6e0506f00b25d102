-- The classes of the characters that the grammar names, by the data of Unicode.
use Rattle.std.proofs.Common.{◌≡◌, ℕ, zero, suc, ◌+◌, ◌-◌, ◌<◌, true, false, ◌||◌, refl, subst, arith}
use Rattle.std.proofs.lemmas.Bool.Decides.{nat_tests}
use Rattle.ucd_category.specs.GeneralCategory.{general_category}
use Rattle.ucd_category.specs.GeneralCategoryRows.{general_category_rows}
use Rattle.ucd_table.specs.Rows.{value_in}
use Rattle.text_stream.specs.Classes.{class_of}
use Rattle.text_stream.specs.declared.classes.CharClass.{CharClass}
use Rattle.text_stream.specs.declared.classes.CharClass.TheVariants.{LineEnd, Space, NameStart, NamePart, Other}
use Rattle.es5_lexer.specs.Characters.{is_start, is_digit, is_start_class, is_line_end_class, is_space_class}
use Rattle.es5_lexer.specs.Trivia.{is_blank}

pub backslash : class_of 92 ≡ Other
unfolding class_of general_category general_category_rows value_in
backslash = refl

pub line_feed : class_of 10 ≡ LineEnd
unfolding class_of general_category general_category_rows value_in
line_feed = refl

pub slash : class_of 47 ≡ Other
unfolding class_of general_category general_category_rows value_in
slash = refl

pub double_quote : class_of 34 ≡ Other
unfolding class_of general_category general_category_rows value_in
double_quote = refl

pub single_quote : class_of 39 ≡ Other
unfolding class_of general_category general_category_rows value_in
single_quote = refl

pub point : class_of 46 ≡ Other
unfolding class_of general_category general_category_rows value_in
point = refl

-- a digit by its value
digit_class : (d : ℕ) → d < 10 → class_of (48 + d) ≡ NamePart
unfolding class_of general_category general_category_rows value_in
digit_class zero h = refl
digit_class (suc zero) h = refl
digit_class (suc (suc zero)) h = refl
digit_class (suc (suc (suc zero))) h = refl
digit_class (suc (suc (suc (suc zero)))) h = refl
digit_class (suc (suc (suc (suc (suc zero))))) h = refl
digit_class (suc (suc (suc (suc (suc (suc zero)))))) h = refl
digit_class (suc (suc (suc (suc (suc (suc (suc zero))))))) h = refl
digit_class (suc (suc (suc (suc (suc (suc (suc (suc zero)))))))) h = refl
digit_class (suc (suc (suc (suc (suc (suc (suc (suc (suc zero))))))))) h = refl
digit_class (suc (suc (suc (suc (suc (suc (suc (suc (suc (suc d)))))))))) h = absurd (omega arith)

digit_value : (c : ℕ) → is_digit c ≡ true → (c - 48 < 10) × (48 + (c - 48) ≡ c)
digit_value c h = (grind (arith, nat_tests), grind (arith, nat_tests))

pub digit : (c : ℕ) → is_digit c ≡ true → class_of c ≡ NamePart
digit c h = subst (λ (n : ℕ). class_of n ≡ NamePart) (digit_value c h).1 (digit_class (c - 48) (digit_value c h).0)

-- the class tells the tests
start_no_blank : (k : CharClass) → is_start_class k ≡ true → (is_line_end_class k || is_space_class k) ≡ false
start_no_blank LineEnd h = absurd cc
start_no_blank Space h = absurd cc
start_no_blank NameStart h = refl
start_no_blank NamePart h = refl
start_no_blank Other h = refl

pub start-no_blank : (c : ℕ) → is_start c ≡ true → is_blank c ≡ false
start-no_blank c h = start_no_blank (class_of c) h
