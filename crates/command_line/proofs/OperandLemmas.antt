-- What clap reads of the words of a subcommand with no operand, with one, or with two.
use Rattle.std.proofs.Common.{◌≡◌, ℕ, false, List, [], ◌∷◌, Option, Some, None, refl, sym, ◌∙◌, subst, codes}
use Rattle.std.specs.List.{list_any}
use Rattle.clap.specs.Walk.{Row, Walk, nothing_held, walk_from, walked}
use Rattle.clap.specs.Walk.{idle}
use Rattle.clap.specs.Simple.{Shape, filled, with_index}
use Rattle.clap.specs.Faults.{turn_fault}
use Rattle.clap.specs.declared.error.kind.ErrorKind.TheVariants as kind
use Rattle.command_line.specs.Program.{operand_rule}
use Rattle.command_line.specs.Taken.{Text}
use Rattle.command_line.specs.Values.{is_end_of_options}
use Rattle.command_line.proofs.WordLemmas.{IsWord, HasNoEnd, neither}
use Rattle.command_line.proofs.WalkLemmas.{Ends, Goes, HasNoLong, HasNoShort, IsPlain, ends_more, goes, held_at, no_fault, plain_of, plain_operand, plain_turn, plain_walked, row_for, walk_at}
use Rattle.command_line.proofs.ProgramLemmas.{word_leaf, operand_leaf, operands_leaf}

abbrev pub first_row : Text → Row
first_row value = row_for (with_index 1 (filled (operand_rule (codes "first")))) value

abbrev pub second_row : Text → Row
second_row value = row_for (with_index 2 (filled (operand_rule (codes "second")))) value

-- after the first operand, and after the second
abbrev pub after_first : Text → Walk
after_first a = walk_at idle 2 (held_at [] (Some (codes "first", a ∷ [])))

abbrev pub after_second : Text → Text → Walk
after_second a b = walk_at idle 3 (held_at (first_row a ∷ []) (Some (codes "second", b ∷ [])))

abbrev pub start : Walk
start = walk_from nothing_held

-- what the words are, where there is one operand at most
pub data Operand (words : List Text) (rows : List Row) : Type 0 where
  no_word : rows ≡ [] → Operand words rows
  one_word : (a : Text) → words ≡ a ∷ [] → rows ≡ first_row a ∷ [] → Operand words rows

-- and where there are two at most
pub data Operands (words : List Text) (rows : List Row) : Type 0 where
  none : rows ≡ [] → Operands words rows
  one : (a : Text) → rows ≡ first_row a ∷ [] → Operands words rows
  two : (a b : Text) → words ≡ a ∷ b ∷ [] → rows ≡ first_row a ∷ second_row b ∷ [] → Operands words rows

-- a place that no operand has
module _ (s : Shape) (has_no_short : HasNoShort s.rules) (has_no_long : HasNoLong s.rules) (position : ℕ) (rows : List Row) (pending : Option (Text × List Text))
    (word : Text) (rest : List Text) (leaves : List Row) (is_no_end : is_end_of_options word ≡ false)
    (e : Ends s (walk_at idle position (held_at rows pending)) (word ∷ rest) leaves) where
  abbrev step : Goes s (walk_at idle position (held_at rows pending)) word rest leaves
  step = goes s (walk_at idle position (held_at rows pending)) word rest leaves e

  pub plain_step : IsPlain s idle position word (held_at rows pending)
  plain_step = plain_operand s has_no_short has_no_long position word rows pending is_no_end step.turn

  pub goes_on : (next : Walk) → (IsPlain s idle position word (held_at rows pending) → walked s.rules [] (walk_at idle position (held_at rows pending)) word ≡ next)
      → Ends s next rest leaves
  goes_on next is = subst (λ (w : Walk). Ends s w rest leaves) (is plain_step) step.ends

  pub refused : (IsPlain s idle position word (held_at rows pending)
      → turn_fault s [] (walk_at idle position (held_at rows pending)) word ≡ kind.UnknownArgument ∷ []) → ⊥
  refused is = let bad = sym (is plain_step) ∙ step.turn in absurd (cc)

-- ---- no operand

module _ (name : Text) where
  word_no_short : HasNoShort (word_leaf name).rules
  word_no_short x = refl

  word_no_long : HasNoLong (word_leaf name).rules
  word_no_long x = refl

  stray_word : (a : Text) → IsPlain (word_leaf name) idle 1 a (held_at [] None)
      → turn_fault (word_leaf name) [] start a ≡ kind.UnknownArgument ∷ []
  stray_word a p = plain_turn (word_leaf name) idle 1 a (held_at [] None) p

  pub no_words : (words : List Text) (leaves : List Row) → HasNoEnd words → Ends (word_leaf name) start words leaves → words ≡ []
  no_words [] leaves no_end e = refl
  no_words (a ∷ rest) leaves no_end e =
      absurd (refused (word_leaf name) word_no_short word_no_long 1 [] None a rest leaves
      (neither (is_end_of_options a) (list_any is_end_of_options rest) no_end).0 e (stray_word a))

  pub word_ends : Ends (word_leaf name) start [] []
  word_ends = record { fault = no_fault (word_leaf name) start; settles = refl; leaves = refl }

-- ---- one operand

module _ (name : Text) where
  operand_no_short : HasNoShort (operand_leaf name).rules
  operand_no_short x = refl

  operand_no_long : HasNoLong (operand_leaf name).rules
  operand_no_long x = refl

  first_walked : (a : Text) → IsPlain (operand_leaf name) idle 1 a (held_at [] None) → walked (operand_leaf name).rules [] start a ≡ after_first a
  first_walked a p = plain_walked (operand_leaf name) idle 1 a (held_at [] None) p

  first_turn : (a : Text) → IsPlain (operand_leaf name) idle 1 a (held_at [] None) → turn_fault (operand_leaf name) [] start a ≡ []
  first_turn a p = plain_turn (operand_leaf name) idle 1 a (held_at [] None) p

  stray_second : (a b : Text) → IsPlain (operand_leaf name) idle 2 b (held_at [] (Some (codes "first", a ∷ [])))
      → turn_fault (operand_leaf name) [] (after_first a) b ≡ kind.UnknownArgument ∷ []
  stray_second a b p = plain_turn (operand_leaf name) idle 2 b (held_at [] (Some (codes "first", a ∷ []))) p

  one_at_most : (a : Text) (rest : List Text) (leaves : List Row) → HasNoEnd rest → Ends (operand_leaf name) (after_first a) rest leaves → Operand (a ∷ rest) leaves
  one_at_most a [] leaves no_end e = one_word a refl (sym e.leaves)
  one_at_most a (b ∷ rest) leaves no_end e =
      absurd (refused (operand_leaf name) operand_no_short operand_no_long 2 [] (Some (codes "first", a ∷ [])) b rest leaves
      (neither (is_end_of_options b) (list_any is_end_of_options rest) no_end).0 e (stray_second a b))

  pub operand_words : (words : List Text) (leaves : List Row) → HasNoEnd words → Ends (operand_leaf name) start words leaves → Operand words leaves
  operand_words [] leaves no_end e = no_word (sym e.leaves)
  operand_words (a ∷ rest) leaves no_end e =
      let parts = neither (is_end_of_options a) (list_any is_end_of_options rest) no_end in
      one_at_most a rest leaves parts.1
      (goes_on (operand_leaf name) operand_no_short operand_no_long 1 [] None a rest leaves parts.0 e (after_first a) (first_walked a))

  pub operand_ends : (a : Text) → IsWord a → Ends (operand_leaf name) start (a ∷ []) (first_row a ∷ [])
  operand_ends a w =
      let plain = plain_of (operand_leaf name) operand_no_short idle 1 a [] None w.no_end w.no_long w.no_short in
      ends_more (operand_leaf name) start (after_first a) a [] (first_row a ∷ []) (first_turn a plain) (first_walked a plain)
      (record { fault = no_fault (operand_leaf name) (after_first a); settles = refl; leaves = refl })

-- ---- two operands

module _ (name : Text) where
  operands_no_short : HasNoShort (operands_leaf name).rules
  operands_no_short x = refl

  operands_no_long : HasNoLong (operands_leaf name).rules
  operands_no_long x = refl

  one_walked : (a : Text) → IsPlain (operands_leaf name) idle 1 a (held_at [] None) → walked (operands_leaf name).rules [] start a ≡ after_first a
  one_walked a p = plain_walked (operands_leaf name) idle 1 a (held_at [] None) p

  one_turn : (a : Text) → IsPlain (operands_leaf name) idle 1 a (held_at [] None) → turn_fault (operands_leaf name) [] start a ≡ []
  one_turn a p = plain_turn (operands_leaf name) idle 1 a (held_at [] None) p

  two_walked : (a b : Text) → IsPlain (operands_leaf name) idle 2 b (held_at [] (Some (codes "first", a ∷ [])))
      → walked (operands_leaf name).rules [] (after_first a) b ≡ after_second a b
  two_walked a b p = plain_walked (operands_leaf name) idle 2 b (held_at [] (Some (codes "first", a ∷ []))) p

  two_turn : (a b : Text) → IsPlain (operands_leaf name) idle 2 b (held_at [] (Some (codes "first", a ∷ [])))
      → turn_fault (operands_leaf name) [] (after_first a) b ≡ []
  two_turn a b p = plain_turn (operands_leaf name) idle 2 b (held_at [] (Some (codes "first", a ∷ []))) p

  stray_third : (a b c : Text) → IsPlain (operands_leaf name) idle 3 c (held_at (first_row a ∷ []) (Some (codes "second", b ∷ [])))
      → turn_fault (operands_leaf name) [] (after_second a b) c ≡ kind.UnknownArgument ∷ []
  stray_third a b c p = plain_turn (operands_leaf name) idle 3 c (held_at (first_row a ∷ []) (Some (codes "second", b ∷ []))) p

  two_at_most : (a b : Text) (rest : List Text) (leaves : List Row) → HasNoEnd rest → Ends (operands_leaf name) (after_second a b) rest leaves
      → Operands (a ∷ b ∷ rest) leaves
  two_at_most a b [] leaves no_end e = two a b refl (sym e.leaves)
  two_at_most a b (c ∷ rest) leaves no_end e =
      absurd (refused (operands_leaf name) operands_no_short operands_no_long 3 (first_row a ∷ []) (Some (codes "second", b ∷ [])) c rest leaves
      (neither (is_end_of_options c) (list_any is_end_of_options rest) no_end).0 e (stray_third a b c))

  from_second : (a : Text) (rest : List Text) (leaves : List Row) → HasNoEnd rest → Ends (operands_leaf name) (after_first a) rest leaves → Operands (a ∷ rest) leaves
  from_second a [] leaves no_end e = one a (sym e.leaves)
  from_second a (b ∷ rest) leaves no_end e =
      let parts = neither (is_end_of_options b) (list_any is_end_of_options rest) no_end in
      two_at_most a b rest leaves parts.1
      (goes_on (operands_leaf name) operands_no_short operands_no_long 2 [] (Some (codes "first", a ∷ [])) b rest leaves parts.0 e (after_second a b) (two_walked a b))

  pub operands_words : (words : List Text) (leaves : List Row) → HasNoEnd words → Ends (operands_leaf name) start words leaves → Operands words leaves
  operands_words [] leaves no_end e = none (sym e.leaves)
  operands_words (a ∷ rest) leaves no_end e =
      let parts = neither (is_end_of_options a) (list_any is_end_of_options rest) no_end in
      from_second a rest leaves parts.1
      (goes_on (operands_leaf name) operands_no_short operands_no_long 1 [] None a rest leaves parts.0 e (after_first a) (one_walked a))

  pub operands_end : (a b : Text) → IsWord a → IsWord b → Ends (operands_leaf name) start (a ∷ b ∷ []) (first_row a ∷ second_row b ∷ [])
  operands_end a b v w =
      let leaves = first_row a ∷ second_row b ∷ [] in
      let first = plain_of (operands_leaf name) operands_no_short idle 1 a [] None v.no_end v.no_long v.no_short in
      let second = plain_of (operands_leaf name) operands_no_short idle 2 b [] (Some (codes "first", a ∷ [])) w.no_end w.no_long w.no_short in
      ends_more (operands_leaf name) start (after_first a) a (b ∷ []) leaves (one_turn a first) (one_walked a first)
      (ends_more (operands_leaf name) (after_first a) (after_second a b) b [] leaves (two_turn a b second) (two_walked a b second)
      (record { fault = no_fault (operands_leaf name) (after_second a b); settles = refl; leaves = refl }))
