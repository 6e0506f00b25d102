-- What a word looks like to clap, and what it is to a walk over words.
use Rattle.std.proofs.Common.{◌≡◌, ◌+◌, ◌==◌, ℕ, suc, Bool, true, false, not, List, [], ◌∷◌, ◌++◌, take, drop, Option, Some, None, cond, refl, ap, arith, ◌∙◌, subst}
use Rattle.std.proofs.lemmas.Bool.Decides.{nat_tests}
use Rattle.std.proofs.lemmas.Bool.{eqb-true, not-true}
use Rattle.std.proofs.lemmas.Option.{option_and_then_some}
use Rattle.std.specs.Prelude.{if◌then◌else◌, option_and_then, ◌||◌}
use Rattle.std.specs.List.{list_any, position_or_len}
use Rattle.clap.specs.Lexer.{strip_byte, has_byte, name_and_value, long_of, long_of_rest, short_of}
use Rattle.command_line.specs.Taken.{Text, is_operand}
use Rattle.command_line.specs.Values.{is_end_of_options}

-- what a word without its hyphens says: `name=value`, or a name alone
abbrev pub IsCut : Text → Text × Option Text → Type 0
IsCut word (name, Some value) = word ≡ name ++ 61 ∷ value
IsCut word (name, None) = word ≡ name

cut_more : (x : ℕ) (xs : Text) (n : ℕ) (here more : Bool) → (here ≡ true → x ≡ 61)
    → IsCut xs (take n xs, if more then Some (drop (n + 1) xs) else None)
    → IsCut (x ∷ xs) (
      take (cond (not here) (1 + n) 0) (x ∷ xs),
      if here || more then Some (drop (cond (not here) (1 + n) 0 + 1) (x ∷ xs)) else None,
    )
cut_more x xs n true more is rest = ap (λ c. c ∷ xs) (is refl)
cut_more x xs n false true is rest =
    let next : 1 + n + 1 ≡ suc (n + 1) = omega arith in
    let here : 1 + n ≡ suc n = omega arith in
    rw (next, here) (ap (λ t. x ∷ t) rest)
cut_more x xs n false false is rest =
    let here : 1 + n ≡ suc n = omega arith in
    rw here (ap (λ t. x ∷ t) rest)

pub cut_word : (xs : Text) → IsCut xs (name_and_value xs)
cut_word [] = refl
cut_word (x ∷ xs) = cut_more x xs (position_or_len (λ y. y == 61) xs) (x == 61) (has_byte 61 xs) (eqb-true x 61) (cut_word xs)

strip_cons : (c x : ℕ) (xs rest : Text) → (if x == c then Some xs else None) ≡ Some rest → x ∷ xs ≡ c ∷ rest
strip_cons c x xs rest e = grind (arith, nat_tests)

strip : (c : ℕ) (word rest : Text) → strip_byte c word ≡ Some rest → word ≡ c ∷ rest
strip c [] rest e = cc
strip c (x ∷ xs) rest e = strip_cons c x xs rest e

-- `--name` or `--name=value`
pub record IsLong (word : Text) (p : Text × Option Text) : Type 0 where
  pub rest : Text
  pub is : word ≡ 45 ∷ 45 ∷ rest
  pub cut : IsCut rest p

long_rest : (rest : Text) (p : Text × Option Text) → long_of_rest rest ≡ Some p → IsCut rest p
long_rest [] p e = absurd (cc)
long_rest (x ∷ xs) p e =
    let same : name_and_value (x ∷ xs) ≡ p = cc in
    subst (λ (q : Text × Option Text). IsCut (x ∷ xs) q) same (cut_word (x ∷ xs))

pub long_is : (word : Text) (p : Text × Option Text) → long_of word ≡ Some p → IsLong word p
long_is word p e =
    option_and_then_some long_of_rest (option_and_then (strip_byte 45) (strip_byte 45 word)) p e (λ rest stripped long.
    option_and_then_some (strip_byte 45) (strip_byte 45 word) rest stripped (λ first one two.
    record {
      rest = rest;
      is = strip 45 word first one ∙ ap (λ t. 45 ∷ t) (strip 45 first rest two);
      cut = long_rest rest p long;
    }))

-- a word that doesn't begin with `-`
pub record IsWord (word : Text) : Type 0 where
  pub no_end : is_end_of_options word ≡ false
  pub no_long : long_of word ≡ None
  pub no_short : short_of word ≡ None

pub operand_is : (word : Text) → is_operand word ≡ true → IsWord word
operand_is [] e = record { no_end = refl; no_long = refl; no_short = refl }
operand_is (b ∷ word) e =
    let other : (b == 45) ≡ false = not-true (b == 45) e in
    record { no_end = rw other refl; no_long = rw other refl; no_short = rw other refl }

-- no word is `--`
abbrev pub HasNoEnd : List Text → Type 0
HasNoEnd words = list_any is_end_of_options words ≡ false

pub neither : (a b : Bool) → (a || b) ≡ false → (a ≡ false) × (b ≡ false)
neither true b e = absurd (cc)
neither false b e = (refl, e)
