-- The words of a job: what clap reads of them, and options that spell them.
use Rattle.std.proofs.Common.{◌≡◌, Bool, true, false, List, [], ◌∷◌, ◌++◌, map, Option, Some, None, refl, ap, sym, ◌∙◌, subst, append_assoc}
use Rattle.std.specs.Prelude.{◌&&◌, if◌then◌else◌}
use Rattle.std.specs.Str.{bytes_eq}
use Rattle.std.proofs.lemmas.Slice.Eq.{bytes_eq-Decides}
use Rattle.orb_bytes.specs.Ascii.{equals_sign}
use Rattle.clap.specs.Lexer.{long_of}
use Rattle.clap.specs.Walk.{Row, Rule, arg_by_long, has_row, used}
use Rattle.clap.specs.Simple.{filled}
use Rattle.clap.specs.Kinds.{or_else}
use Rattle.clap.specs.Faults.{use_fault}
use Rattle.clap.specs.declared.error.kind.ErrorKind.TheVariants as kind
use Rattle.command_line.specs.Program.{option_rule}
use Rattle.command_line.specs.Taken.{Text, Name, policy, limit, name_text, Given, option_word, values_of, if_named}
use Rattle.command_line.proofs.WordLemmas.{IsCut, long_is}
use Rattle.command_line.proofs.WalkLemmas.{row_added, row_for}

-- ---- options and rows

abbrev pub rule_of : Name → Rule
rule_of x = filled (option_rule (name_text x))

abbrev pub row_of : Given → Row
row_of g = row_for (rule_of g.name) g.value

abbrev pub rows_of : List Given → List Row
rows_of = map row_of

abbrev pub job_rules : List Rule
job_rules = rule_of policy ∷ rule_of limit ∷ []

module _ (v : Text) (rows : List Row) (values : List Text) where
  missing_more : (x y : Name) → has_row (name_text x) (row_for (rule_of y) v ∷ rows) ≡ false → (has_row (name_text x) rows ≡ false → values ≡ [])
      → if_named x y v ++ values ≡ []
  missing_more policy policy e rest = absurd (cc)
  missing_more policy limit e rest = rest e
  missing_more limit policy e rest = rest e
  missing_more limit limit e rest = absurd (cc)

  unseen_more : (x y : Name) → if_named x y v ++ values ≡ [] → (values ≡ [] → has_row (name_text x) rows ≡ false)
      → has_row (name_text x) (row_for (rule_of y) v ∷ rows) ≡ false
  unseen_more policy policy e rest = absurd (cc)
  unseen_more policy limit e rest = rest e
  unseen_more limit policy e rest = rest e
  unseen_more limit limit e rest = absurd (cc)

-- no row, and no value
missing : (x : Name) (seen : List Given) → has_row (name_text x) (rows_of seen) ≡ false → values_of x seen ≡ []
missing x [] e = refl
missing x (g ∷ seen) e = missing_more g.value (rows_of seen) (values_of x seen) x g.name e (missing x seen)

unseen : (x : Name) (seen : List Given) → values_of x seen ≡ [] → has_row (name_text x) (rows_of seen) ≡ false
unseen x [] e = refl
unseen x (g ∷ seen) e = unseen_more g.value (rows_of seen) (values_of x seen) x g.name e (unseen x seen)

rows_append : (a b : List Given) → rows_of (a ++ b) ≡ rows_of a ++ rows_of b
rows_append [] b = refl
rows_append (g ∷ a) b = ap (λ t. row_of g ∷ t) (rows_append a b)

pub values_append : (x : Name) (a b : List Given) → values_of x (a ++ b) ≡ values_of x a ++ values_of x b
values_append x [] b = refl
values_append x (g ∷ a) b = ap (λ t. if_named x g.name g.value ++ t) (values_append x a b) ∙ sym (append_assoc (if_named x g.name g.value) (values_of x a) (values_of x b))

-- one use of an option that wasn't used before
pub record IsFresh (g : Given) (seen : List Given) : Type 0 where
  pub fault : use_fault false (rule_of g.name) (g.value ∷ []) (rows_of seen) ≡ []
  pub used : used (rule_of g.name) (g.value ∷ []) (rows_of seen) ≡ rows_of (seen ++ g ∷ [])

not_there : (b : Bool) → or_else (if b && true then kind.ArgumentConflict ∷ [] else []) [] ≡ [] → b ≡ false
not_there true e = absurd (cc)
not_there false e = refl

pub fresh : (g : Given) (seen : List Given) → values_of g.name seen ≡ [] → IsFresh g seen
fresh g seen e =
    let none = unseen g.name seen e in
    record {
      fault = rw none refl;
      used = row_added (rule_of g.name) g.value (rows_of seen) none ∙ sym (rows_append seen (g ∷ []));
    }

-- a use that isn't refused
pub not_seen : (g : Given) (seen : List Given) → use_fault false (rule_of g.name) (g.value ∷ []) (rows_of seen) ≡ [] → values_of g.name seen ≡ []
not_seen g seen e = missing g.name seen (not_there (has_row (name_text g.name) (rows_of seen)) e)

-- ---- the words of options

abbrev pub joined_word : Name → Text → Text
joined_word x v = option_word x ++ equals_sign ∷ v

pub data Word (w : Text) : Type 0 where
  both : (x : Name) (v : Text) → w ≡ joined_word x v → Word w
  alone : (x : Name) → w ≡ option_word x → Word w
  unknown : (p : Text × Option Text) → long_of w ≡ Some p → arg_by_long job_rules p.0 ≡ None → Word w
  other : long_of w ≡ None → Word w

pub data Named (n : Text) : Type 0 where
  named : (x : Name) → n ≡ name_text x → Named n
  unnamed : arg_by_long job_rules n ≡ None → Named n

name_by : (n : Text) (is_policy is_limit : Bool) → bytes_eq (name_text policy) n ≡ is_policy → bytes_eq (name_text limit) n ≡ is_limit → Named n
name_by n true is_limit p l = named policy (sym ((bytes_eq-Decides (name_text policy) n).0 p))
name_by n false true p l = named limit (sym ((bytes_eq-Decides (name_text limit) n).0 l))
name_by n false false p l = unnamed (rw (p, l) refl)

pub name_view : (n : Text) → Named n
name_view n = name_by n (bytes_eq (name_text policy) n) (bytes_eq (name_text limit) n) refl refl

long_named : (w rest : Text) (x : Name) (value : Option Text) → w ≡ 45 ∷ 45 ∷ rest → IsCut rest (name_text x, value) → Word w
long_named w rest x (Some v) is cut = both x v (is ∙ ap (λ t. 45 ∷ 45 ∷ t) cut)
long_named w rest x None is cut = alone x (is ∙ ap (λ t. 45 ∷ 45 ∷ t) cut)

long_word : (w : Text) (n : Text) (value : Option Text) → long_of w ≡ Some (n, value) → Named n → Word w
long_word w n value long (named x is) =
    let l = long_is w (n, value) long in
    long_named w l.rest x value l.is (subst (λ (m : Text). IsCut l.rest (m, value)) is l.cut)
long_word w n value long (unnamed none) = unknown (n, value) long none

word_by : (w : Text) (long : Option (Text × Option Text)) → long_of w ≡ long → Word w
word_by w None e = other e
word_by w (Some p) e = long_word w p.0 p.1 e (name_view p.0)

pub word_view : (w : Text) → Word w
word_view w = word_by w (long_of w) refl
