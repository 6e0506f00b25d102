-- What the values of options and operands mean.
use Rattle.std.proofs.Common.{◌≡◌, ◌≤◌, ◌==◌, ℕ, Bool, true, false, not, List, [], ◌∷◌, ◌++◌, length, Option, Some, None, refl, ap, sym, ◌∙◌, codes, arith}
use Rattle.std.proofs.lemmas.Bool.Decides.{nat_tests}
use Rattle.std.proofs.lemmas.Slice.Eq.{bytes_eq-Decides}
use Rattle.std.proofs.lemmas.Option.{option_and_then_some}
use Rattle.std.specs.Prelude.{◌&&◌, if◌then◌else◌, nat_le, slice_get, IsTrue}
use Rattle.std.specs.Char.{is_ascii_digit}
use Rattle.std.specs.List.{list_all}
use Rattle.std.specs.Str.{bytes_eq}
use Rattle.std.specs.Str.Parse.{digits_value}
use Rattle.orb_bytes.specs.Decimal.{decimal_of}
use Rattle.clap.specs.Walk.{Row, first_of}
use Rattle.command_line.specs.declared.asked.Policy.{Policy}
use Rattle.command_line.specs.declared.asked.Policy.TheVariants.{Orb, Corb}
use Rattle.command_line.specs.declared.numbers.TheConstants.{LEAST_LIMIT, MOST_LIMIT}
use Rattle.command_line.specs.Taken.{Asked, Judge, Trial, Mime, Har, ComputedType, Serve, Proxy, Given, IsInRange, IsLimit, IsNumber, IsPolicy, IsTaken, Name, Text, if_named, is_operand, limit, name_text, policy, policy_text, values_of}
use Rattle.command_line.specs.Values.{if_in, limit_of, number_in, of_both, operand_of, policy_of}
use Rattle.command_line.proofs.WalkLemmas.{row_for}
use Rattle.command_line.proofs.OptionLemmas.{rows_of, rule_of}
use Rattle.command_line.proofs.JobLemmas.{AtMostOne}
use Rattle.command_line.proofs.SpellLemmas.{IsSaid}

-- both are there
pub record IsBoth {X Y : Type 0} (ask : X → Y → Asked) (first : Option X) (second : Option Y) (asked : Asked) : Type 0 where
  pub x : X
  pub y : Y
  pub has_first : first ≡ Some x
  pub has_second : second ≡ Some y
  pub are : ask x y ≡ asked

pub both_are : {X Y : Type 0} (ask : X → Y → Asked) (first : Option X) (second : Option Y) (asked : Asked) → of_both ask first second ≡ Some asked
    → IsBoth ask first second asked
both_are ask None second asked e = absurd (cc)
both_are ask (Some x) None asked e = absurd (cc)
both_are ask (Some x) (Some y) asked e = record { x = x; y = y; has_first = refl; has_second = refl; are = cc }

-- ---- numbers

in_range : (least most n m : ℕ) → if_in least most n ≡ Some m → (n ≡ m) × (least ≤ m) × (m ≤ most)
in_range least most n m e = grind (arith, nat_tests)

range_in : (least most n : ℕ) → least ≤ n → n ≤ most → if_in least most n ≡ Some n
range_in least most n low high = grind (arith, nat_tests)

pub number_is : (least most : ℕ) (word : Text) (n : ℕ) → number_in least most word ≡ Some n → IsNumber least most word n
number_is least most word n e =
    option_and_then_some (if_in least most) (decimal_of word) n e (λ m is within.
    let parts = in_range least most m n within in
    record { written = is ∙ ap (λ (k : ℕ). Some k) parts.0; at_least = parts.1; at_most = parts.2 })

pub number_reads : (least most : ℕ) (word : Text) (n : ℕ) → IsNumber least most word n → number_in least most word ≡ Some n
number_reads least most word n is = rw (is.written) (range_in least most n is.at_least is.at_most)

digit_first : (b : ℕ) (few rest : Bool) (value n : ℕ) → (if few && (is_ascii_digit b && rest) then Some value else None) ≡ Some n → not (b == 45) ≡ true
digit_first b few rest value n e = grind (arith, nat_tests)

pub number_operand : (word : Text) (n : ℕ) → decimal_of word ≡ Some n → is_operand word ≡ true
number_operand [] n e = refl
number_operand (b ∷ word) n e =
    digit_first b (nat_le 1 (length (b ∷ word)) && nat_le (length (b ∷ word)) 19) (list_all is_ascii_digit word) (digits_value 10 (b ∷ word)) n e

-- ---- policies

policy_by : (value : Text) (p : Policy) (is_orb is_corb : Bool) → bytes_eq value (codes "orb") ≡ is_orb → bytes_eq value (codes "corb") ≡ is_corb
    → (if is_orb then Some Orb else if is_corb then Some Corb else None) ≡ Some p → value ≡ policy_text p
policy_by value p true is_corb o c e = let same : Orb ≡ p = cc in (bytes_eq-Decides value (codes "orb")).0 o ∙ ap policy_text same
policy_by value p false true o c e = let same : Corb ≡ p = cc in (bytes_eq-Decides value (codes "corb")).0 c ∙ ap policy_text same
policy_by value p false false o c e = absurd (cc)

pub policy_is : (values : List Text) (p : Policy) → AtMostOne values → policy_of (slice_get values 0) ≡ Some p → IsPolicy values p
policy_is [] p once e = cc
policy_is (v ∷ []) p once e = policy_by v p (bytes_eq v (codes "orb")) (bytes_eq v (codes "corb")) refl refl e
policy_is (v ∷ (w ∷ more)) p once e = absurd once

policy_named : (p : Policy) → policy_of (Some (policy_text p)) ≡ Some p
policy_named Orb = refl
policy_named Corb = refl

policy_operand : (p : Policy) → is_operand (policy_text p) ≡ true
policy_operand Orb = refl
policy_operand Corb = refl

pub policy_reads : (values : List Text) (p : Policy) → IsPolicy values p → policy_of (slice_get values 0) ≡ Some p
policy_reads [] p is = ap (λ (q : Policy). Some q) (sym is)
policy_reads (v ∷ []) p is = ap (λ (t : Text). policy_of (Some t)) is ∙ policy_named p
policy_reads (v ∷ (w ∷ more)) p is = absurd is

pub policy_said : (values : List Text) (p : Policy) → IsPolicy values p → IsSaid values
policy_said [] p is = tt
policy_said (v ∷ []) p is = ap is_operand is ∙ policy_operand p
policy_said (v ∷ (w ∷ more)) p is = is

-- ---- limits

pub limit_is : (values : List Text) (n : ℕ) → AtMostOne values → limit_of (slice_get values 0) ≡ Some n → IsLimit values n
limit_is [] n once e = cc
limit_is (v ∷ []) n once e = number_is _ _ v n e
limit_is (v ∷ (w ∷ more)) n once e = absurd once

pub limit_reads : (values : List Text) (n : ℕ) → IsLimit values n → limit_of (slice_get values 0) ≡ Some n
limit_reads [] n is = ap (λ (k : ℕ). Some k) (sym is)
limit_reads (v ∷ []) n is = number_reads _ _ v n is
limit_reads (v ∷ (w ∷ more)) n is = absurd is

pub limit_said : (values : List Text) (n : ℕ) → IsLimit values n → IsSaid values
limit_said [] n is = tt
limit_said (v ∷ []) n is = number_operand v n is.written
limit_said (v ∷ (w ∷ more)) n is = is

-- ---- operands

pub record IsOperand (word text : Text) : Type 0 where
  pub operand : IsTrue (is_operand word)
  pub are : word ≡ text

operand_by : (word text : Text) (is : Bool) → is_operand word ≡ is → (if is then Some word else None) ≡ Some text → IsOperand word text
operand_by word text true is e = record { operand = is; are = cc }
operand_by word text false is e = absurd (cc)

pub operand_text : (word text : Text) → operand_of word ≡ Some text → IsOperand word text
operand_text word text e = operand_by word text (is_operand word) refl e

pub operand_reads : (word : Text) → is_operand word ≡ true → operand_of word ≡ Some word
operand_reads word is = rw is refl

-- ---- the first value of an option

first_more : (v : Text) (rows : List Row) (values : List Text) (x y : Name) → first_of (name_text x) rows ≡ slice_get values 0
    → first_of (name_text x) (row_for (rule_of y) v ∷ rows) ≡ slice_get (if_named x y v ++ values) 0
first_more v rows values policy policy e = refl
first_more v rows values policy limit e = e
first_more v rows values limit policy e = e
first_more v rows values limit limit e = refl

pub first_is : (x : Name) (options : List Given) → first_of (name_text x) (rows_of options) ≡ slice_get (values_of x options) 0
first_is x [] = refl
first_is x (g ∷ options) = first_more g.value (rows_of options) (values_of x options) x g.name (first_is x options)

limit_in_range : (values : List Text) (n : ℕ) → IsLimit values n → (LEAST_LIMIT ≤ n) × (n ≤ MOST_LIMIT)
limit_in_range [] n is = omega arith
limit_in_range (v ∷ []) n is = (is.at_least, is.at_most)
limit_in_range (v ∷ (w ∷ more)) n is = absurd is

-- each number that words ask for lies in its range
pub in_ranges : (words : List Text) (asked : Asked) → IsTaken words asked → IsInRange asked
in_ranges words (Judge job p n) is = limit_in_range (values_of limit is.options) n is.says_limit
in_ranges words (Trial seed count) is = (is.writes_seed.at_most, is.writes_count.at_least, is.writes_count.at_most)
in_ranges words (Mime text) is = tt
in_ranges words Har is = tt
in_ranges words ComputedType is = tt
in_ranges words (Serve address count) is = (is.writes_count.at_least, is.writes_count.at_most)
in_ranges words (Proxy address count) is = (is.writes_count.at_least, is.writes_count.at_most)
