-- What clap reads of words that spell options.
use Rattle.std.proofs.Common.{◌≡◌, true, false, List, [], ◌∷◌, ◌++◌, Option, Some, None, refl, ap, sym, ◌∙◌, subst, append_assoc, append-nil}
use Rattle.std.specs.Prelude.{⊤}
use Rattle.clap.specs.Walk.{Row, settled, used}
use Rattle.clap.specs.Walk.{option}
use Rattle.clap.specs.Faults.{react_fault, settle_fault, use_fault}
use Rattle.command_line.specs.Taken.{Text, Name, policy, limit, name_text, Spelling, apart, joined, Given, option_word, spelled, options_words, values_of, if_named, is_operand}
use Rattle.command_line.proofs.WordLemmas.{operand_is}
use Rattle.command_line.proofs.WalkLemmas.{Ends, ends_more, held_at, no_fault, or_else_both, plain_of}
use Rattle.command_line.proofs.ProgramLemmas.{job_leaf}
use Rattle.command_line.proofs.OptionLemmas.{fresh, job_rules, joined_word, rows_of, rule_of, values_append}
use Rattle.command_line.proofs.JobLemmas.{alone_turn, alone_walked, idle_at, joined_turn, joined_walked, no_short, pending_fault, pending_used, value_turn, value_walked, wait_at}

-- no value, or one that is an operand
abbrev pub IsSaid : List Text → Type 0
IsSaid [] = ⊤
IsSaid (v ∷ []) = is_operand v ≡ true
IsSaid (v ∷ (w ∷ more)) = ⊥

-- each option is given at most once, and its value is an operand
abbrev pub Said : List Given → Type 0
Said options = (x : Name) → IsSaid (values_of x options)

pub record IsFirst (v : Text) (seen : List Text) : Type 0 where
  pub none : seen ≡ []
  pub operand : is_operand v ≡ true

first_said : (v : Text) (seen more : List Text) → IsSaid (seen ++ (v ∷ more)) → IsFirst v seen
first_said v [] [] said = record { none = refl; operand = said }
first_said v [] (w ∷ more) said = absurd said
first_said v (w ∷ []) more said = absurd said
first_said v (w ∷ (u ∷ seen)) more said = absurd said

own_value : (y : Name) (v : Text) (more : List Text) → if_named y y v ++ more ≡ v ∷ more
own_value policy v more = refl
own_value limit v more = refl

pub first_given : (g : Given) (seen options : List Given) → Said (seen ++ g ∷ options) → IsFirst g.value (values_of g.name seen)
first_given g seen options said =
    let are : values_of g.name (seen ++ g ∷ options) ≡ values_of g.name seen ++ (g.value ∷ values_of g.name options) =
    values_append g.name seen (g ∷ options) ∙ ap (λ t. values_of g.name seen ++ t) (own_value g.name g.value (values_of g.name options)) in
    first_said g.value (values_of g.name seen) (values_of g.name options) (subst IsSaid are (said g.name))

-- what is held is these options, once they are settled, and nothing is wrong with them
pub record Settles (rows : List Row) (pending : Option (Text × List Text)) (seen : List Given) : Type 0 where
  pub fault : settle_fault job_rules false (held_at rows pending) ≡ []
  pub are : (settled job_rules (held_at rows pending)).rows ≡ rows_of seen

-- one more option
module _ (name : Text) (seen : List Given) (rest : List Text) (leaves : List Row) (rows : List Row) (pending : Option (Text × List Text))
    (settles : Settles rows pending seen) where
  spell_one : (x : Name) (v : Text) (spelling : Spelling) → IsFirst v (values_of x seen)
      → ((rows : List Row) (pending : Option (Text × List Text))
      → Settles rows pending (seen ++ (record { name = x; value = v; spelling = spelling }) ∷ []) → Ends (job_leaf name) (idle_at rows pending) rest leaves)
      → Ends (job_leaf name) (idle_at rows pending) (spelled spelling x v ++ rest) leaves
  spell_one x v joined first next =
      let g : Given = record { name = x; value = v; spelling = joined } in
      let held = held_at rows pending in
      let f = fresh g seen first.none in
      let uses : use_fault false (rule_of x) (v ∷ []) (settled job_rules held).rows ≡ [] =
      ap (use_fault false (rule_of x) (v ∷ [])) settles.are ∙ f.fault in
      let reacts = or_else_both (settle_fault job_rules false held) (use_fault false (rule_of x) (v ∷ []) (settled job_rules held).rows) settles.fault uses in
      ends_more (job_leaf name) (idle_at rows pending) (idle_at (used (rule_of x) (v ∷ []) (settled job_rules held).rows) None) (joined_word x v) rest leaves
      (joined_turn name rows pending x v ∙ or_else_both (react_fault job_rules false (rule_of x) (v ∷ []) held) [] reacts refl)
      (joined_walked name rows pending x v)
      (next (used (rule_of x) (v ∷ []) (settled job_rules held).rows) None (record {
        fault = refl;
        are = ap (used (rule_of x) (v ∷ [])) settles.are ∙ f.used;
      }))
  spell_one x v apart first next =
      let g : Given = record { name = x; value = v; spelling = apart } in
      let held = held_at rows pending in
      let f = fresh g seen first.none in
      let word = operand_is v first.operand in
      let plain = plain_of (job_leaf name) (no_short name) (option (name_text x)) 1 v (rows_of seen) (Some (name_text x, [])) word.no_end word.no_long word.no_short in
      ends_more (job_leaf name) (idle_at rows pending) (wait_at x (rows_of seen)) (option_word x) (v ∷ rest) leaves
      (alone_turn name rows pending x ∙ or_else_both (settle_fault job_rules false held) [] settles.fault refl)
      (alone_walked name rows pending x ∙ ap (wait_at x) settles.are)
      (ends_more (job_leaf name) (wait_at x (rows_of seen)) (idle_at (rows_of seen) (Some (name_text x, v ∷ []))) v rest leaves
      (value_turn name (rows_of seen) x v plain)
      (value_walked name (rows_of seen) x v plain)
      (next (rows_of seen) (Some (name_text x, v ∷ [])) (record {
        fault = pending_fault v (rows_of seen) x ∙ f.fault;
        are = pending_used v (rows_of seen) x ∙ f.used;
      })))

pub spell : (name : Text) (options seen : List Given) (rows : List Row) (pending : Option (Text × List Text)) → Settles rows pending seen → Said (seen ++ options)
    → Ends (job_leaf name) (idle_at rows pending) (options_words options) (rows_of (seen ++ options))
spell name [] seen rows pending settles said = record {
  fault = no_fault (job_leaf name) (idle_at rows pending);
  settles = settles.fault;
  leaves = settles.are ∙ ap rows_of (sym (append-nil seen));
}
spell name (g ∷ options) seen rows pending settles said =
    let same : (seen ++ g ∷ []) ++ options ≡ seen ++ g ∷ options = append_assoc seen (g ∷ []) options in
    spell_one name seen (options_words options) (rows_of (seen ++ g ∷ options)) rows pending settles g.name g.value g.spelling (first_given g seen options said)
    (λ rows pending more.
    subst (λ (l : List Given). Ends (job_leaf name) (idle_at rows pending) (options_words options) (rows_of l)) same
    (spell name options (seen ++ g ∷ []) rows pending more (subst Said (sym same) said)))
