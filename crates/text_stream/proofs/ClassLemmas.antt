-- The table of the ASCII characters agrees with the classes.
use Rattle.std.proofs.Common.{◌≡◌, ◌⊎◌, inl, inr, ⊎_elim, ℕ, zero, suc, ◌<◌, ◌==◌, Bool, true, false, ◌&&◌, ◌||◌, refl, sym, ap, subst, ◌∙◌, slice_index_or, eqb-true, if◌then◌else◌}
use Rattle.ucd_category.specs.GeneralCategory.{general_category}
use Rattle.ucd_category.proofs.GeneralCategoryLemmas.{general_category_stepped}
use Rattle.ucd_category.proofs.Computing.{ucd_category}
use Rattle.ucd_table.proofs.Facts.{Stepped-below}
use Rattle.std.specs.Prelude.{◌↔◌}
use Rattle.std.proofs.lemmas.Bool.{or_cases, true≢false, false_from_ne_true}
use Rattle.ucd_category.specs.declared.GeneralCategory.{GeneralCategory}
use Rattle.ucd_category.specs.declared.GeneralCategory.TheVariants.{SpaceSeparator}
use Rattle.text_stream.specs.Classes.{is_line_terminator, is_space_separator, is_named_space, is_letter, is_mark_digit_or_connector, is_one_unit, is_white_space, is_name_start, is_name_start_of, is_further_part_of, class_in, class_of, IsOfItsSets}
use Rattle.text_stream.specs.declared.classes.CharClass.{CharClass}
use Rattle.text_stream.specs.declared.classes.CharClass.TheVariants.{LineEnd, Space, NameStart, NamePart, Other}
use Rattle.text_stream.specs.declared.classes.TheConstants.{ASCII_CLASSES}

abbrev number_of : CharClass → ℕ
number_of LineEnd = 0
number_of Space = 1
number_of NameStart = 2
number_of NamePart = 3
number_of Other = 4

abbrev class_at : ℕ → CharClass
class_at zero = LineEnd
class_at (suc zero) = Space
class_at (suc (suc zero)) = NameStart
class_at (suc (suc (suc zero))) = NamePart
class_at (suc (suc (suc (suc n)))) = Other

class_at-number_of : (k : CharClass) → class_at (number_of k) ≡ k
class_at-number_of LineEnd = refl
class_at-number_of Space = refl
class_at-number_of NameStart = refl
class_at-number_of NamePart = refl
class_at-number_of Other = refl

same_class : (j k : CharClass) → number_of j ≡ number_of k → j ≡ k
same_class j k e = sym (class_at-number_of j) ∙ ap class_at e ∙ class_at-number_of k

pub ascii-class_of : (c : ℕ) → c < 128 → slice_index_or ASCII_CLASSES c LineEnd ≡ class_of c
unfolding class_of ucd_category
ascii-class_of c h =
    same_class _ _ (eqb-true _ _ (Stepped-below general_category general_category_stepped
    (λ x category. number_of (slice_index_or ASCII_CLASSES x LineEnd) == number_of (class_in category x)) 128 refl c h))

-- ---- the classes are sets

-- what may begin a name or go on with one
is_name_of : GeneralCategory → ℕ → Bool
is_name_of category c = is_name_start_of category c || is_further_part_of category c

line_terminator-alone : (c : ℕ) → is_line_terminator c ≡ true → (is_white_space c || is_name_of (general_category c) c) ≡ false
unfolding is_name_of ucd_category
line_terminator-alone c is =
    let P : ℕ → Type 0 = λ k. (is_white_space k || is_name_of (general_category k) k) ≡ false in
    let at : (k : ℕ) → P k → (c == k) ≡ true → P c = λ k p e. subst P (sym (eqb-true c k e)) p in
    elim (or_cases _ _ is) [
      | inl a ↦ elim (or_cases _ _ a) [ inl e ↦ at 0x000A refl e | inr e ↦ at 0x000D refl e ]
      | inr b ↦ elim (or_cases _ _ b) [ inl e ↦ at 0x2028 refl e | inr e ↦ at 0x2029 refl e ]
    ]

named_space-alone : (c : ℕ) → is_named_space c ≡ true → is_name_of (general_category c) c ≡ false
unfolding is_name_of ucd_category
named_space-alone c is =
    let P : ℕ → Type 0 = λ k. is_name_of (general_category k) k ≡ false in
    let at : (k : ℕ) → P k → (c == k) ≡ true → P c = λ k p e. subst P (sym (eqb-true c k e)) p in
    elim (or_cases _ _ is) [
      | inl a ↦ elim (or_cases _ _ a) [
        | inl d ↦ elim (or_cases _ _ d) [ inl e ↦ at 0x0009 refl e | inr e ↦ at 0x000B refl e ]
        | inr d ↦ elim (or_cases _ _ d) [ inl e ↦ at 0x000C refl e | inr e ↦ at 0x0020 refl e ]
      ]
      | inr b ↦ elim (or_cases _ _ b) [ inl e ↦ at 0x00A0 refl e | inr e ↦ at 0xFEFF refl e ]
    ]

is_separator : (category : GeneralCategory) → is_space_separator category ≡ true → category ≡ SpaceSeparator
is_separator SpaceSeparator is = refl
is_separator _ is = cc

-- no character of the category is that one
not_that : (k c : ℕ) → is_space_separator (general_category k) ≡ false → is_space_separator (general_category c) ≡ true → (c == k) ≡ false
not_that k c no_space is =
    false_from_ne_true _
    (λ e. true≢false (sym is ∙ ap (λ n. is_space_separator (general_category n)) (eqb-true c k e) ∙ no_space))

nothing_holds : (u l m a b x y : Bool) → l ≡ false → m ≡ false → a ≡ false → b ≡ false → x ≡ false → y ≡ false → ((u && (l || (a || b))) || (u && (m || (x || y)))) ≡ false
nothing_holds u l m a b x y p q r s t v = rw (p, q, r, s, t, v) (neither u)
  where
    neither : (u : Bool) → ((u && false) || (u && false)) ≡ false
    neither true = refl
    neither false = refl

separator-alone : (c : ℕ) → is_space_separator (general_category c) ≡ true → is_name_of (general_category c) c ≡ false
unfolding is_name_of ucd_category
separator-alone c is =
    let zs = is_separator (general_category c) is in
    nothing_holds (is_one_unit c) (is_letter (general_category c)) (is_mark_digit_or_connector (general_category c)) _ _ _ _
    (ap is_letter zs) (ap is_mark_digit_or_connector zs) (not_that 0x0024 c refl is) (not_that 0x005F c refl is)
    (not_that 0x200C c refl is) (not_that 0x200D c refl is)

white_space-alone : (c : ℕ) → is_white_space c ≡ true → is_name_of (general_category c) c ≡ false
white_space-alone c is = ⊎_elim (named_space-alone c) (separator-alone c) (or_cases _ _ is)

class_by : (line space start part : Bool) → CharClass
class_by line space start part =
    if line then LineEnd
    else if space then Space
    else if start then NameStart
    else if part then NamePart
    else Other

record Tells (line space start part : Bool) (class : CharClass) : Type 0 where
  line_end : (class ≡ LineEnd) ↔ (line ≡ true)
  space_ : (class ≡ Space) ↔ (space ≡ true)
  name_start : (class ≡ NameStart) ↔ (start ≡ true)
  name_part : ((class ≡ NameStart) ⊎ (class ≡ NamePart)) ↔ ((start || part) ≡ true)

tells : (line space start part : Bool) → (line ≡ true → (space || (start || part)) ≡ false) → (space ≡ true → (start || part) ≡ false) → Tells line space start part (class_by line space start part)
unfolding class_by
tells true true start part l s = absurd (true≢false (l refl))
tells true false true part l s = absurd (true≢false (l refl))
tells true false false true l s = absurd (true≢false (l refl))
tells true false false false l s = record {
  line_end = (λ e. refl, λ e. refl);
  space_ = (λ e. cc, λ e. cc);
  name_start = (λ e. cc, λ e. cc);
  name_part = (λ e. elim e [ inl p ↦ cc | inr p ↦ cc ], λ e. absurd (true≢false (sym e)));
}
tells false true true part l s = absurd (true≢false (s refl))
tells false true false true l s = absurd (true≢false (s refl))
tells false true false false l s = record {
  line_end = (λ e. cc, λ e. cc);
  space_ = (λ e. refl, λ e. refl);
  name_start = (λ e. cc, λ e. cc);
  name_part = (λ e. elim e [ inl p ↦ cc | inr p ↦ cc ], λ e. absurd (true≢false (sym e)));
}
tells false false true part l s = record {
  line_end = (λ e. cc, λ e. cc);
  space_ = (λ e. cc, λ e. cc);
  name_start = (λ e. refl, λ e. refl);
  name_part = (λ e. refl, λ e. inl refl);
}
tells false false false true l s = record {
  line_end = (λ e. cc, λ e. cc);
  space_ = (λ e. cc, λ e. cc);
  name_start = (λ e. cc, λ e. cc);
  name_part = (λ e. refl, λ e. inr refl);
}
tells false false false false l s = record {
  line_end = (λ e. cc, λ e. cc);
  space_ = (λ e. cc, λ e. cc);
  name_start = (λ e. cc, λ e. cc);
  name_part = (λ e. elim e [ inl p ↦ cc | inr p ↦ cc ], λ e. absurd (true≢false (sym e)));
}

pub class_of-sets : (c : ℕ) → IsOfItsSets c
unfolding class_of class_by is_name_of
class_of-sets c =
    let t = tells (is_line_terminator c) (is_white_space c) (is_name_start c) (is_further_part_of (general_category c) c)
    (line_terminator-alone c) (white_space-alone c) in
    record { line_end = t.line_end; space = t.space_; name_start = t.name_start; name_part = t.name_part }
