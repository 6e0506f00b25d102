-- Walks of clap's parse over words, for rules that have no short names.
use Rattle.std.proofs.Common.{◌≡◌, ℕ, zero, suc, Bool, true, false, List, [], ◌∷◌, ◌++◌, Option, Some, None, refl, ap, ap₂, arith, sym, ◌∙◌, subst, fold, length, append-nil}
use Rattle.std.specs.Prelude.{if◌then◌else◌, ◌||◌, ◌&&◌, slice_get}
use Rattle.std.specs.List.{list_all}
use Rattle.std.proofs.lemmas.Bool.{eqb-true}
use Rattle.std.specs.Option.{option_map_or}
use Rattle.std.specs.Str.{bytes_eq, chars}
use Rattle.clap.specs.Lexer.{long_of, short_of}
use Rattle.clap.specs.Walk.{Held, Outcome, Row, Rule, Step, Waiting, Walk, after_step, arg_by_long, arg_by_short, at_row, bundle_met, bundle_step, default_rows, finished, has_row, is_empty, more_values, nothing_held, plain, plain_word, reading_by, rows_after, settled, short_or_plain, subcommand_met, walk, walk_from, walked, with_default, word_met, with_values, without}
use Rattle.clap.specs.Walk.{idle, option, positional}
use Rattle.clap.specs.Simple.{Shape}
use Rattle.clap.specs.Kinds.{Kinds, or_else}
use Rattle.clap.specs.Faults.{bundle_fault, bundle_step_fault, check_fault, default_fault, defaults_fault, flags_fault, given_default_fault, level_fault, settle_fault, step_fault, turn_fault, walk_fault, word_fault}
use Rattle.clap.specs.declared.error.kind.ErrorKind.TheVariants as kind
use Rattle.clap.specs.declared.parser.matches.ValueSource.TheVariants.{CommandLine}
use Rattle.command_line.specs.Taken.{Text}

pub or_else_nil : (a b : Kinds) → or_else a b ≡ [] → (a ≡ []) × (b ≡ [])
or_else_nil [] b e = (refl, e)
or_else_nil (k ∷ ks) b e = absurd (cc)

and_parts : (a b : Bool) → (a && b) ≡ true → (a ≡ true) × (b ≡ true)
and_parts true b e = (refl, e)
and_parts false b e = absurd (cc)

pub or_else_both : (a b : Kinds) → a ≡ [] → b ≡ [] → or_else a b ≡ []
or_else_both a b first second = rw first second

-- ---- a walk and how it ends

abbrev pub held_at : List Row → Option (Text × List Text) → Held
held_at rows pending = record { rows = rows; pending = pending; skip = 0 }

abbrev pub walk_at : Waiting → ℕ → Held → Walk
walk_at waiting position h = record {
  held = h;
  waiting = waiting;
  position = position;
  is_trailing = false;
  stopped = None;
}

-- the words are taken to their end, and leave these rows
pub record Ends (s : Shape) (w : Walk) (words : List Text) (rows : List Row) : Type 0 where
  pub fault : walk_fault s [] w words ≡ []
  pub settles : settle_fault s.rules s.args_override_self (fold (walked s.rules []) w words).held ≡ []
  pub leaves : (settled s.rules (fold (walked s.rules []) w words).held).rows ≡ rows

pub record Goes (s : Shape) (w : Walk) (word : Text) (rest : List Text) (rows : List Row) : Type 0 where
  pub turn : turn_fault s [] w word ≡ []
  pub ends : Ends s (walked s.rules [] w word) rest rows

-- a word at a time
pub goes : (s : Shape) (w : Walk) (word : Text) (rest : List Text) (rows : List Row) → Ends s w (word ∷ rest) rows → Goes s w word rest rows
unfolding walk_fault
goes s w word rest rows e =
    let both = or_else_nil (turn_fault s [] w word) (walk_fault s [] (walked s.rules [] w word) rest) e.fault in
    record {
      turn = both.0;
      ends = record { fault = both.1; settles = e.settles; leaves = e.leaves };
    }

pub ends_more : (s : Shape) (w next : Walk) (word : Text) (rest : List Text) (rows : List Row) → turn_fault s [] w word ≡ []
    → walked s.rules [] w word ≡ next → Ends s next rest rows → Ends s w (word ∷ rest) rows
unfolding walk_fault
ends_more s w next word rest rows turn is e =
    let ends : Ends s (walked s.rules [] w word) rest rows = subst (λ (v : Walk). Ends s v rest rows) (sym is) e in
    record {
      fault = or_else_both (turn_fault s [] w word) (walk_fault s [] (walked s.rules [] w word) rest) turn ends.fault;
      settles = ends.settles;
      leaves = ends.leaves;
    }

-- ---- a word that is no flag

abbrev pub dashes : Text
dashes = 45 ∷ 45 ∷ []

abbrev pub HasNoShort : List Rule → Type 0
HasNoShort c = (x : ℕ) → arg_by_short c x ≡ None

-- the word goes to what waits for a value, or to an operand
pub record IsPlain (s : Shape) (waiting : Waiting) (position : ℕ) (word : Text) (h : Held) : Type 0 where
  pub fault : word_fault s [] false waiting word h ≡ []
  pub met : word_met s.rules [] false waiting position word h ≡ plain_word s.rules waiting word h

no_names : (waiting : Waiting) (word : Text) → subcommand_met [] waiting word ≡ None
no_names idle word = refl
no_names (option id) word = refl
no_names positional word = refl

module _ (c : List Rule) (again : Bool) (has_no_short : HasNoShort c) (h : Held) (flags : Text) where
  first_flag : (first : Option ℕ) (fails : Text → ℕ → Held → Kinds) (next : Text → ℕ → Outcome → Held → Held × Outcome)
      → bundle_step_fault c again first flags 0 h fails ≡ [] → bundle_step c first flags 0 plain h next ≡ (h, plain)
  first_flag None fails next e = refl
  first_flag (Some x) fails next e =
      let bad : kind.UnknownArgument ∷ [] ≡ [] = rw (has_no_short x) at e in absurd (cc)

  all_flags : (k : ℕ) → flags_fault c again k flags 0 h ≡ [] → bundle_met c k flags 0 plain h ≡ (h, plain)
  unfolding flags_fault bundle_met
  all_flags zero e = refl
  all_flags (suc k) e = first_flag (slice_get (chars flags) 0) (flags_fault c again k) (bundle_met c k) e

module _ (s : Shape) (has_no_short : HasNoShort s.rules) (waiting : Waiting) (position : ℕ) (word : Text) (rows : List Row) (pending : Option (Text × List Text)) where
  short_flags : (flags : Option Text)
      → option_map_or (λ f. bundle_fault s.rules s.args_override_self f (held_at rows pending)) flags [] ≡ []
      → short_or_plain s.rules waiting word flags (held_at rows pending) ≡ plain_word s.rules waiting word (held_at rows pending)
  short_flags None e = refl
  short_flags (Some flags) e =
      let met = all_flags s.rules s.args_override_self has_no_short (held_at rows pending) flags (length flags) e in
      rw met refl

  fault_is : bytes_eq word dashes ≡ false → long_of word ≡ None
      → word_fault s [] false waiting word (held_at rows pending)
      ≡ option_map_or (λ f. bundle_fault s.rules s.args_override_self f (held_at rows pending)) (short_of word) []
  fault_is other short = rw (no_names waiting word, other, short) refl

  met_is : bytes_eq word dashes ≡ false → long_of word ≡ None
      → word_met s.rules [] false waiting position word (held_at rows pending)
      ≡ short_or_plain s.rules waiting word (short_of word) (held_at rows pending)
  met_is other short = rw (no_names waiting word, other, short) refl

  -- a word that isn't refused, and isn't long
  pub plain_from : bytes_eq word dashes ≡ false → long_of word ≡ None → word_fault s [] false waiting word (held_at rows pending) ≡ []
      → IsPlain s waiting position word (held_at rows pending)
  plain_from other short fault = record {
    fault = fault;
    met = met_is other short ∙ short_flags (short_of word) (sym (fault_is other short) ∙ fault);
  }

  pub plain_of : bytes_eq word dashes ≡ false → long_of word ≡ None → short_of word ≡ None → IsPlain s waiting position word (held_at rows pending)
  plain_of other long short = record {
    fault = fault_is other long ∙ rw short refl;
    met = met_is other long ∙ rw short refl;
  }

  -- a long name that no rule has
  pub unknown_is : (p : Text × Option Text) → bytes_eq word dashes ≡ false → long_of word ≡ Some p → arg_by_long s.rules p.0 ≡ None
      → word_fault s [] false waiting word (held_at rows pending) ≡ kind.UnknownArgument ∷ []
  unknown_is p other long none = rw (no_names waiting word, other, long) (rw none refl)

module _ (s : Shape) (waiting : Waiting) (position : ℕ) (word : Text) (h : Held) where
  -- the turn of a word that isn't refused
  pub turn_word : turn_fault s [] (walk_at waiting position h) word ≡ [] → word_fault s [] false waiting word h ≡ []
  turn_word e =
      let met = word_met s.rules [] false waiting position word h in
      (or_else_nil (word_fault s [] false waiting word h) (step_fault s position met.0 met.1) e).0

  pub plain_turn : IsPlain s waiting position word h
      → turn_fault s [] (walk_at waiting position h) word
      ≡ step_fault s position (plain_word s.rules waiting word h).0 (plain_word s.rules waiting word h).1
  plain_turn p = ap₂ (λ (k : Kinds) (m : Held × Step). or_else k (step_fault s position m.0 m.1)) p.fault p.met

  pub plain_walked : IsPlain s waiting position word h
      → walked s.rules [] (walk_at waiting position h) word
      ≡ after_step s.rules word (walk_at waiting position h) (plain_word s.rules waiting word h).0 (plain_word s.rules waiting word h).1
  unfolding walked
  plain_walked p = ap (λ (m : Held × Step). after_step s.rules word (walk_at waiting position h) m.0 m.1) p.met

-- ---- rows

module _ (id : Text) (change : Row → List Row) (missing : List Row) where
  absent_more : (here : Bool) (r : Row) (rs after : List Row) → (here || has_row id rs) ≡ false → (has_row id rs ≡ false → after ≡ rs ++ missing)
      → (if here then change r ++ rs else r ∷ after) ≡ r ∷ (rs ++ missing)
  absent_more true r rs after e rest = absurd (cc)
  absent_more false r rs after e rest = ap (λ t. r ∷ t) (rest e)

  absent : (rows : List Row) → has_row id rows ≡ false → at_row id change missing rows ≡ rows ++ missing
  absent [] e = refl
  absent (r ∷ rs) e = absent_more (bytes_eq r.id id) r rs (at_row id change missing rs) e (absent rs)

abbrev pub row_for : Rule → Text → Row
row_for a value = record {
  id = a.id;
  values = value ∷ [];
  count = None;
  source = Some CommandLine;
  reading = reading_by a;
}

-- an argument that is used for the first time
pub row_added : (a : Rule) (value : Text) (rows : List Row) → has_row a.id rows ≡ false
    → with_values a.id (reading_by a) CommandLine (value ∷ []) (without a.id rows) ≡ rows ++ row_for a value ∷ []
row_added a value rows e =
    let same : without a.id rows ≡ rows = absent a.id (λ _. []) [] rows e ∙ append-nil rows in
    rw same (absent a.id (more_values CommandLine (value ∷ [])) (row_for a value ∷ []) rows e)

-- ---- a level of words with operands alone

abbrev pub HasNoLong : List Rule → Type 0
HasNoLong c = (name : Text) → arg_by_long c name ≡ None

module _ (s : Shape) (has_no_short : HasNoShort s.rules) (has_no_long : HasNoLong s.rules) (position : ℕ) (word : Text) (rows : List Row) (pending : Option (Text × List Text))
    (is_no_end : bytes_eq word dashes ≡ false) where
  plain_by : (long : Option (Text × Option Text)) → long_of word ≡ long → word_fault s [] false idle word (held_at rows pending) ≡ []
      → IsPlain s idle position word (held_at rows pending)
  plain_by None e fault = plain_from s has_no_short idle position word rows pending is_no_end e fault
  plain_by (Some p) e fault =
      let bad = sym (unknown_is s has_no_short idle position word rows pending p is_no_end e (has_no_long p.0)) ∙ fault in absurd (cc)

  -- a word that isn't refused
  pub plain_operand : turn_fault s [] (walk_at idle position (held_at rows pending)) word ≡ [] → IsPlain s idle position word (held_at rows pending)
  plain_operand turn = plain_by (long_of word) refl (turn_word s idle position word (held_at rows pending) turn)

-- ---- one level of the parse

pub no_fault : (s : Shape) (w : Walk) → walk_fault s [] w [] ≡ []
unfolding walk_fault
no_fault s w = refl

-- nothing stands for what isn't given, and nothing has to be given
pub record IsQuiet (s : Shape) : Type 0 where
  pub defaults : list_all (λ a. is_empty a.defaults) s.rules ≡ true
  pub check : (rows : List Row) → check_fault s rows false ≡ []

default_same : (has : Bool) (a : Rule) (defaults : List Text) (rows : List Row) → is_empty defaults ≡ true
    → (if has then rows else default_rows a.id (reading_by a) defaults rows) ≡ rows
default_same true a defaults rows e = refl
default_same false a [] rows e = refl
default_same false a (v ∷ vs) rows e = let bad : length (v ∷ vs) ≡ 0 = eqb-true (length (v ∷ vs)) 0 e in absurd (omega arith)

pub all_defaults : (c : List Rule) (rows : List Row) → list_all (λ a. is_empty a.defaults) c ≡ true → fold with_default rows c ≡ rows
all_defaults [] rows e = refl
all_defaults (a ∷ c) rows e =
    let parts = and_parts (is_empty a.defaults) (list_all (λ r. is_empty r.defaults) c) e in
    ap (λ (r : List Row). fold with_default r c) (default_same (has_row a.id rows) a a.defaults rows parts.0) ∙ all_defaults c rows parts.1

default_none : (has : Bool) (defaults : List Text) (k : Kinds) → is_empty defaults ≡ true → (if has || is_empty defaults then [] else k) ≡ []
default_none true defaults k e = refl
default_none false defaults k e = rw e refl

no_default_fault : (c : List Rule) (rows : List Row) → list_all (λ a. is_empty a.defaults) c ≡ true → defaults_fault rows c ≡ []
unfolding defaults_fault
no_default_fault [] rows e = refl
no_default_fault (a ∷ c) rows e =
    let parts = and_parts (is_empty a.defaults) (list_all (λ r. is_empty r.defaults) c) e in
    or_else_both (default_fault rows a) (defaults_fault (with_default rows a) c)
    (default_none (has_row a.id rows) a.defaults (given_default_fault a a.defaults) parts.0)
    (no_default_fault c (with_default rows a) parts.1)

-- a level that isn't refused
pub level_in : (s : Shape) (words : List Text) → IsQuiet s → level_fault s [] nothing_held words false [] ≡ []
    → Ends s (walk_from nothing_held) words (rows_after s.rules [] words)
level_in s words quiet e =
    let end = (walk s.rules [] nothing_held words).held in
    let first = or_else_nil (walk_fault s [] (walk_from nothing_held) words) (or_else (settle_fault s.rules s.args_override_self end)
    (or_else (defaults_fault (settled s.rules end).rows s.rules) (check_fault s (finished s.rules end) false))) e in
    let second = or_else_nil (settle_fault s.rules s.args_override_self end)
    (or_else (defaults_fault (settled s.rules end).rows s.rules) (check_fault s (finished s.rules end) false)) first.1 in
    record {
      fault = first.0;
      settles = second.0;
      leaves = sym (all_defaults s.rules (settled s.rules end).rows quiet.defaults);
    }

pub record Level (s : Shape) (words : List Text) (rows : List Row) : Type 0 where
  pub fault : level_fault s [] nothing_held words false [] ≡ []
  pub leaves : rows_after s.rules [] words ≡ rows

pub level_out : (s : Shape) (words : List Text) (rows : List Row) → IsQuiet s → Ends s (walk_from nothing_held) words rows → Level s words rows
level_out s words rows quiet e =
    let end = (walk s.rules [] nothing_held words).held in
    record {
      fault = or_else_both (walk_fault s [] (walk_from nothing_held) words) (or_else (settle_fault s.rules s.args_override_self end)
          (or_else (defaults_fault (settled s.rules end).rows s.rules) (check_fault s (finished s.rules end) false))) e.fault
          (or_else_both (settle_fault s.rules s.args_override_self end)
          (or_else (defaults_fault (settled s.rules end).rows s.rules) (check_fault s (finished s.rules end) false)) e.settles
          (or_else_both (defaults_fault (settled s.rules end).rows s.rules) (check_fault s (finished s.rules end) false)
          (no_default_fault s.rules (settled s.rules end).rows quiet.defaults) (quiet.check (finished s.rules end))));
      leaves = all_defaults s.rules (settled s.rules end).rows quiet.defaults ∙ e.leaves;
    }
