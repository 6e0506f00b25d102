-- What clap reads of the words of a job: options that spell them, and the other way.
use Rattle.std.proofs.Common.{◌≡◌, false, List, [], ◌∷◌, ◌++◌, Option, Some, None, refl, ap, sym, ◌∙◌, subst, append_assoc, append-nil}
use Rattle.std.specs.Prelude.{⊤}
use Rattle.std.specs.List.{list_any}
use Rattle.clap.specs.Walk.{Row, Walk, settled, used, walked}
use Rattle.clap.specs.Walk.{idle, option}
use Rattle.clap.specs.Kinds.{or_else}
use Rattle.clap.specs.Faults.{react_fault, settle_fault, turn_fault, use_fault}
use Rattle.clap.specs.declared.error.kind.ErrorKind.TheVariants as kind
use Rattle.command_line.specs.Taken.{Text, Name, policy, limit, name_text, apart, joined, Given, option_word, spelled, options_words, values_of, if_named}
use Rattle.command_line.specs.Values.{is_end_of_options}
use Rattle.command_line.proofs.WordLemmas.{HasNoEnd, neither}
use Rattle.command_line.proofs.WalkLemmas.{Ends, Goes, HasNoShort, IsPlain, goes, held_at, or_else_nil, plain_from, plain_turn, plain_walked, turn_word, unknown_is, walk_at}
use Rattle.command_line.proofs.ProgramLemmas.{job_leaf}
use Rattle.command_line.proofs.OptionLemmas.{Word, alone, both, fresh, job_rules, joined_word, not_seen, other, rows_of, rule_of, unknown, values_append, word_view}

-- ---- single words

pub no_short : (name : Text) → HasNoShort (job_leaf name).rules
no_short name x = refl

-- between two options
abbrev pub idle_at : List Row → Option (Text × List Text) → Walk
idle_at rows pending = walk_at idle 1 (held_at rows pending)

-- an option waits for its value
abbrev pub wait_at : Name → List Row → Walk
wait_at x rows = walk_at (option (name_text x)) 1 (held_at rows (Some (name_text x, [])))

module _ (name : Text) (rows : List Row) (pending : Option (Text × List Text)) where
  pub joined_turn : (x : Name) (v : Text) → turn_fault (job_leaf name) [] (idle_at rows pending) (joined_word x v)
      ≡ or_else (react_fault job_rules false (rule_of x) (v ∷ []) (held_at rows pending)) []
  joined_turn policy v = refl
  joined_turn limit v = refl

  pub joined_walked : (x : Name) (v : Text) → walked job_rules [] (idle_at rows pending) (joined_word x v)
      ≡ idle_at (used (rule_of x) (v ∷ []) (settled job_rules (held_at rows pending)).rows) None
  unfolding walked
  joined_walked policy v = refl
  joined_walked limit v = refl

  pub alone_turn : (x : Name) → turn_fault (job_leaf name) [] (idle_at rows pending) (option_word x)
      ≡ or_else (settle_fault job_rules false (held_at rows pending)) []
  alone_turn policy = refl
  alone_turn limit = refl

  pub alone_walked : (x : Name) → walked job_rules [] (idle_at rows pending) (option_word x)
      ≡ wait_at x (settled job_rules (held_at rows pending)).rows
  unfolding walked
  alone_walked policy = refl
  alone_walked limit = refl

module _ (name : Text) (rows : List Row) where
  -- an option in the place of a value
  no_value_joined : (y x : Name) (v : Text) → turn_fault (job_leaf name) [] (wait_at y rows) (joined_word x v) ≡ kind.InvalidValue ∷ []
  no_value_joined policy policy v = refl
  no_value_joined policy limit v = refl
  no_value_joined limit policy v = refl
  no_value_joined limit limit v = refl

  no_value_alone : (y x : Name) → turn_fault (job_leaf name) [] (wait_at y rows) (option_word x) ≡ kind.InvalidValue ∷ []
  no_value_alone policy policy = refl
  no_value_alone policy limit = refl
  no_value_alone limit policy = refl
  no_value_alone limit limit = refl

  -- a value
  pub value_turn : (y : Name) (v : Text) → IsPlain (job_leaf name) (option (name_text y)) 1 v (held_at rows (Some (name_text y, [])))
      → turn_fault (job_leaf name) [] (wait_at y rows) v ≡ []
  value_turn policy v p = plain_turn (job_leaf name) (option (name_text policy)) 1 v (held_at rows (Some (name_text policy, []))) p
  value_turn limit v p = plain_turn (job_leaf name) (option (name_text limit)) 1 v (held_at rows (Some (name_text limit, []))) p

  pub value_walked : (y : Name) (v : Text) → IsPlain (job_leaf name) (option (name_text y)) 1 v (held_at rows (Some (name_text y, [])))
      → walked job_rules [] (wait_at y rows) v ≡ idle_at rows (Some (name_text y, v ∷ []))
  value_walked policy v p = plain_walked (job_leaf name) (option (name_text policy)) 1 v (held_at rows (Some (name_text policy, []))) p
  value_walked limit v p = plain_walked (job_leaf name) (option (name_text limit)) 1 v (held_at rows (Some (name_text limit, []))) p

  -- no operand is taken
  pub stray : (pending : Option (Text × List Text)) (v : Text) → IsPlain (job_leaf name) idle 1 v (held_at rows pending)
      → turn_fault (job_leaf name) [] (idle_at rows pending) v ≡ kind.UnknownArgument ∷ []
  stray pending v p = plain_turn (job_leaf name) idle 1 v (held_at rows pending) p

-- ---- from words to options

abbrev pub AtMostOne : List Text → Type 0
AtMostOne [] = ⊤
AtMostOne (v ∷ []) = ⊤
AtMostOne (v ∷ (w ∷ more)) = ⊥

-- each option is given at most once
abbrev pub Once : List Given → Type 0
Once options = (x : Name) → AtMostOne (values_of x options)

-- what is held is these options, once they are settled
pub record Holds (rows : List Row) (pending : Option (Text × List Text)) (seen : List Given) : Type 0 where
  pub are : (settled job_rules (held_at rows pending)).rows ≡ rows_of seen
  pub once : Once seen

abbrev pub WouldHold : List Row → Option (Text × List Text) → List Given → Type 0
WouldHold rows pending seen = settle_fault job_rules false (held_at rows pending) ≡ [] → Holds rows pending seen

-- the words are options, and the rows are theirs and those of the options before
pub record Found (seen : List Given) (words : List Text) (rows : List Row) : Type 0 where
  pub options : List Given
  pub are : words ≡ options_words options
  pub leaves : rows ≡ rows_of (seen ++ options)
  pub once : Once (seen ++ options)

once_named : (x y : Name) (v : Text) (values : List Text) → (x ≡ y → values ≡ []) → AtMostOne values → AtMostOne (values ++ (if_named x y v ++ []))
once_named policy policy v values none once = rw (none refl) tt
once_named policy limit v values none once = rw (append-nil values) once
once_named limit policy v values none once = rw (append-nil values) once
once_named limit limit v values none once = rw (none refl) tt

once_more : (g : Given) (seen : List Given) → values_of g.name seen ≡ [] → Once seen → Once (seen ++ g ∷ [])
once_more g seen none once x =
    subst AtMostOne (sym (values_append x seen (g ∷ [])))
    (once_named x g.name g.value (values_of x seen) (λ same. ap (λ (y : Name). values_of y seen) same ∙ none) (once x))

found_more : (g : Given) (seen : List Given) (words rest : List Text) (rows : List Row) → words ≡ spelled g.spelling g.name g.value ++ rest
    → Found (seen ++ g ∷ []) rest rows → Found seen words rows
found_more g seen words rest rows is f =
    let same : (seen ++ g ∷ []) ++ f.options ≡ seen ++ g ∷ f.options = append_assoc seen (g ∷ []) f.options in
    record {
      options = g ∷ f.options;
      are = is ∙ ap (λ t. spelled g.spelling g.name g.value ++ t) f.are;
      leaves = f.leaves ∙ ap rows_of same;
      once = subst Once same f.once;
    }

-- an option whose value has come, and isn't settled
module _ (v : Text) (rows : List Row) where
  pub pending_fault : (y : Name) → settle_fault job_rules false (held_at rows (Some (name_text y, v ∷ []))) ≡ use_fault false (rule_of y) (v ∷ []) rows
  pending_fault policy = refl
  pending_fault limit = refl

  pub pending_used : (y : Name) → (settled job_rules (held_at rows (Some (name_text y, v ∷ [])))).rows ≡ used (rule_of y) (v ∷ []) rows
  pending_used policy = refl
  pending_used limit = refl

no_value_end : (rows : List Row) (y : Name) → settle_fault job_rules false (held_at rows (Some (name_text y, []))) ≡ kind.InvalidValue ∷ []
no_value_end rows policy = refl
no_value_end rows limit = refl

would_hold : (g : Given) (seen : List Given) → Once seen → WouldHold (rows_of seen) (Some (name_text g.name, g.value ∷ [])) (seen ++ g ∷ [])
would_hold g seen once e =
    let none = not_seen g seen (sym (pending_fault g.value (rows_of seen) g.name) ∙ e) in
    record {
      are = pending_used g.value (rows_of seen) g.name ∙ (fresh g seen none).used;
      once = once_more g seen none once;
    }

-- what the words are, from a walk that takes them
pub record Claims (name : Text) (words : List Text) : Type 0 where
  pub between : (rows : List Row) (pending : Option (Text × List Text)) (seen : List Given) (leaves : List Row) → WouldHold rows pending seen
      → Ends (job_leaf name) (idle_at rows pending) words leaves → Found seen words leaves
  pub waiting : (y : Name) (seen : List Given) (leaves : List Row) → Once seen
      → Ends (job_leaf name) (wait_at y (rows_of seen)) words leaves → Found seen (option_word y ∷ words) leaves

no_words : (name : Text) → Claims name []
no_words name = record {
  between = λ rows pending seen leaves would e.
      let holds = would e.settles in
      record {
        options = [];
        are = refl;
        leaves = sym e.leaves ∙ holds.are ∙ ap rows_of (sym (append-nil seen));
        once = subst Once (sym (append-nil seen)) holds.once;
      };
  waiting = λ y seen leaves once e.
      let bad : kind.InvalidValue ∷ [] ≡ [] = sym (no_value_end (rows_of seen) y) ∙ e.settles in absurd (cc);
}

module _ (name : Text) (w : Text) (rest : List Text) (is_no_end : is_end_of_options w ≡ false) (next : Claims name rest) where
  -- between two options
  between_word : (rows : List Row) (pending : Option (Text × List Text)) (seen : List Given) (leaves : List Row) → WouldHold rows pending seen
      → Word w → Goes (job_leaf name) (idle_at rows pending) w rest leaves → Found seen (w ∷ rest) leaves
  between_word rows pending seen leaves would (both x v is) e =
      let g : Given = record { name = x; value = v; spelling = joined } in
      let held = held_at rows pending in
      let turn : turn_fault (job_leaf name) [] (idle_at rows pending) (joined_word x v) ≡ [] =
      subst (λ (u : Text). turn_fault (job_leaf name) [] (idle_at rows pending) u ≡ []) is e.turn in
      let reacts = (or_else_nil (react_fault job_rules false (rule_of x) (v ∷ []) held) [] (sym (joined_turn name rows pending x v) ∙ turn)).0 in
      let parts = or_else_nil (settle_fault job_rules false held) (use_fault false (rule_of x) (v ∷ []) (settled job_rules held).rows) reacts in
      let holds = would parts.0 in
      let none = not_seen g seen (subst (λ (r : List Row). use_fault false (rule_of x) (v ∷ []) r ≡ []) holds.are parts.1) in
      let walks : walked job_rules [] (idle_at rows pending) w ≡ idle_at (used (rule_of x) (v ∷ []) (settled job_rules held).rows) None =
      ap (λ (u : Text). walked job_rules [] (idle_at rows pending) u) is ∙ joined_walked name rows pending x v in
      let ends = subst (λ (a : Walk). Ends (job_leaf name) a rest leaves) walks e.ends in
      found_more g seen (w ∷ rest) rest leaves (ap (λ t. t ∷ rest) is)
      (next.between (used (rule_of x) (v ∷ []) (settled job_rules held).rows) None (seen ++ g ∷ []) leaves
      (λ _. record {
        are = ap (used (rule_of x) (v ∷ [])) holds.are ∙ (fresh g seen none).used;
        once = once_more g seen none holds.once;
      }) ends)
  between_word rows pending seen leaves would (alone x is) e =
      let held = held_at rows pending in
      let turn : turn_fault (job_leaf name) [] (idle_at rows pending) (option_word x) ≡ [] =
      subst (λ (u : Text). turn_fault (job_leaf name) [] (idle_at rows pending) u ≡ []) is e.turn in
      let holds = would (or_else_nil (settle_fault job_rules false held) [] (sym (alone_turn name rows pending x) ∙ turn)).0 in
      let walks : walked job_rules [] (idle_at rows pending) w ≡ wait_at x (rows_of seen) =
      ap (λ (u : Text). walked job_rules [] (idle_at rows pending) u) is ∙ alone_walked name rows pending x ∙ ap (wait_at x) holds.are in
      let found = next.waiting x seen leaves holds.once (subst (λ (a : Walk). Ends (job_leaf name) a rest leaves) walks e.ends) in
      subst (λ (u : Text). Found seen (u ∷ rest) leaves) (sym is) found
  between_word rows pending seen leaves would (unknown p long none) e =
      let fault = turn_word (job_leaf name) idle 1 w (held_at rows pending) e.turn in
      let bad = sym (unknown_is (job_leaf name) (no_short name) idle 1 w rows pending p is_no_end long none) ∙ fault in absurd (cc)
  between_word rows pending seen leaves would (other none) e =
      let fault = turn_word (job_leaf name) idle 1 w (held_at rows pending) e.turn in
      let plain = plain_from (job_leaf name) (no_short name) idle 1 w rows pending is_no_end none fault in
      let bad = sym (stray name rows pending w plain) ∙ e.turn in absurd (cc)

  -- where an option waits for its value
  waiting_word : (y : Name) (seen : List Given) (leaves : List Row) → Once seen → Word w
      → Goes (job_leaf name) (wait_at y (rows_of seen)) w rest leaves → Found seen (option_word y ∷ w ∷ rest) leaves
  waiting_word y seen leaves once (both x v is) e =
      let turn = subst (λ (u : Text). turn_fault (job_leaf name) [] (wait_at y (rows_of seen)) u ≡ []) is e.turn in
      let bad = sym (no_value_joined name (rows_of seen) y x v) ∙ turn in absurd (cc)
  waiting_word y seen leaves once (alone x is) e =
      let turn = subst (λ (u : Text). turn_fault (job_leaf name) [] (wait_at y (rows_of seen)) u ≡ []) is e.turn in
      let bad = sym (no_value_alone name (rows_of seen) y x) ∙ turn in absurd (cc)
  waiting_word y seen leaves once (unknown p long none) e =
      let fault = turn_word (job_leaf name) (option (name_text y)) 1 w (held_at (rows_of seen) (Some (name_text y, []))) e.turn in
      let bad = sym (unknown_is (job_leaf name) (no_short name) (option (name_text y)) 1 w (rows_of seen) (Some (name_text y, [])) p is_no_end long none) ∙ fault in
      absurd (cc)
  waiting_word y seen leaves once (other none) e =
      let g : Given = record { name = y; value = w; spelling = apart } in
      let fault = turn_word (job_leaf name) (option (name_text y)) 1 w (held_at (rows_of seen) (Some (name_text y, []))) e.turn in
      let plain = plain_from (job_leaf name) (no_short name) (option (name_text y)) 1 w (rows_of seen) (Some (name_text y, [])) is_no_end none fault in
      let ends = subst (λ (a : Walk). Ends (job_leaf name) a rest leaves) (value_walked name (rows_of seen) y w plain) e.ends in
      found_more g seen (option_word y ∷ w ∷ rest) rest leaves refl
      (next.between (rows_of seen) (Some (name_text y, w ∷ [])) (seen ++ g ∷ []) leaves (would_hold g seen once) ends)

  one_word : Claims name (w ∷ rest)
  one_word = record {
    between = λ rows pending seen leaves would e.
        between_word rows pending seen leaves would (word_view w) (goes (job_leaf name) (idle_at rows pending) w rest leaves e);
    waiting = λ y seen leaves once e.
        waiting_word y seen leaves once (word_view w) (goes (job_leaf name) (wait_at y (rows_of seen)) w rest leaves e);
  }

pub claims : (name : Text) (words : List Text) → HasNoEnd words → Claims name words
claims name [] e = no_words name
claims name (w ∷ rest) e =
    let parts = neither (is_end_of_options w) (list_any is_end_of_options rest) e in
    one_word name w rest parts.0 (claims name rest parts.1)
