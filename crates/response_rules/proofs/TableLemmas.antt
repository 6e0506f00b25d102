-- The first rule of a table.
use Rattle.std.proofs.Common.{◌≡◌, ℕ, Bool, true, false, List, [], ◌∷◌, ◌++◌, Option, Some, None, is_some, unwrap_or, find, ◌↔◌, refl, sym, ap, subst, ◌∙◌, arith}
use Rattle.std.specs.List.{list_any}
use Rattle.std.specs.Option.{option_or, option_map}
use Rattle.std.proofs.lemmas.List.Folds.{find-append}
use Rattle.std.proofs.lemmas.Option.{none-some, same_Some}
use Rattle.response_rules.specs.declared.rules.Rule.{Rule}
use Rattle.response_rules.specs.Heads.{Case}
use Rattle.response_rules.specs.declared.rules.Rule.TheVariants.{Script}
use Rattle.response_rules.specs.declared.verdicts.Policy.{Policy}
use Rattle.response_rules.specs.declared.verdicts.Policy.TheVariants.{Orb, Corb}
use Rattle.signatures.specs.Window.{window_of}
use Rattle.response_rules.specs.Tables.{head_rows, window_rows, window_rows_by, corb_window_rows, end_rows, end_rows_by, orb_end_rows, early_rows, rows_of, IsFirst, IsRule, first_rule, early_rule, rule_of}
use Rattle.response_rules.specs.Settled.{head_rule_of, rule_in_window}

option_map-or : {A B : Type 0} (f : A → B) (a b : Option A)
    → option_map f (option_or a b) ≡ option_or (option_map f a) (option_map f b)
option_map-or f None b = refl
option_map-or f (Some x) b = refl

-- of a table after another
pub first_rule-append : (xs ys : List (Rule × Bool)) → first_rule (xs ++ ys) ≡ option_or (first_rule xs) (first_rule ys)
first_rule-append xs ys =
    ap (option_map (λ row. row.0)) (find-append (λ row. row.1) xs ys)
    ∙ option_map-or (λ row. row.0) (find (λ row. row.1) xs) (find (λ row. row.1) ys)

-- where none holds
pub first_rule-none : (rows : List (Rule × Bool)) → list_any (λ row. row.1) rows ≡ false → first_rule rows ≡ None
first_rule-none [] none = refl
first_rule-none ((r, true) ∷ rows) none = grind (arith, none)
first_rule-none ((r, false) ∷ rows) none = first_rule-none rows none

pub none-first_rule : (rows : List (Rule × Bool)) → first_rule rows ≡ None → list_any (λ row. row.1) rows ≡ false
none-first_rule [] none = refl
none-first_rule ((r, true) ∷ rows) none = absurd (none-some r (sym none))
none-first_rule ((r, false) ∷ rows) none = none-first_rule rows none

-- where one is the first
pub first_rule-first : (rows : List (Rule × Bool)) (r : Rule) → IsFirst rows r → first_rule rows ≡ Some r
first_rule-first rows r is =
    ap first_rule is.table
    ∙ first_rule-append is.before ((r, true) ∷ is.after)
    ∙ ap (λ o. option_or o (Some r)) (first_rule-none is.before is.first)

pub first-first_rule : (rows : List (Rule × Bool)) (r : Rule) → first_rule rows ≡ Some r → IsFirst rows r
first-first_rule [] r is = absurd (none-some r is)
first-first_rule ((s, true) ∷ rows) r is = record {
  before = [];
  after = rows;
  table = ap (λ x. (x, true) ∷ rows) (same_Some s r is);
  first = refl;
}
first-first_rule ((s, false) ∷ rows) r is =
    let rest = first-first_rule rows r is in record {
      before = (s, false) ∷ rest.before;
      after = rest.after;
      table = ap (λ l. (s, false) ∷ l) rest.table;
      first = rest.first;
    }

-- by its two halves
pub early-halves : (h : Case) (body : List ℕ)
    → early_rule h body ≡ option_or (head_rule_of h) (rule_in_window h (window_of body))
unfolding early_rule head_rule_of rule_in_window
early-halves h body = first_rule-append (head_rows h) (window_rows h (window_of body))

-- a table whose last rule holds
abbrev ends_holding : List (Rule × Bool) → Bool
ends_holding [] = false
ends_holding (row ∷ []) = row.1
ends_holding (row ∷ (next ∷ rows)) = ends_holding (next ∷ rows)

pub some_holds : (rows : List (Rule × Bool)) → ends_holding rows ≡ true → is_some (first_rule rows) ≡ true
some_holds [] ends = absurd (cc ends)
some_holds ((r, true) ∷ rows) ends = refl
some_holds ((r, false) ∷ []) ends = absurd (cc ends)
some_holds ((r, false) ∷ (next ∷ rows)) ends = some_holds (next ∷ rows) ends

-- one of the rules of CORB that the window decides holds
pub corb_decides : (h : Case) (body : List ℕ) → h.policy ≡ Corb → is_some (early_rule h body) ≡ true
unfolding early_rule window_rows corb_window_rows
corb_decides h body corb =
    let some : is_some (first_rule (window_rows_by Corb h (window_of body))) ≡ true = some_holds (corb_window_rows h (window_of body)) refl in
    let here : is_some (first_rule (window_rows h (window_of body))) ≡ true =
    subst (λ (p : Policy). is_some (first_rule (window_rows_by p h (window_of body))) ≡ true) (sym corb) some in
    ap is_some (first_rule-append (head_rows h) (window_rows h (window_of body))) ∙ either (first_rule (head_rows h)) (first_rule (window_rows h (window_of body))) here
  where
    either : (a b : Option Rule) → is_some b ≡ true → is_some (option_or a b) ≡ true
    either None b some = some
    either (Some r) b some = refl

-- where neither head nor window decides, the rules are those of ORB
pub undecided_is_orb : (h : Case) (body : List ℕ) → early_rule h body ≡ None → h.policy ≡ Orb
undecided_is_orb h body none = by h.policy refl
  where
    by : (p : Policy) → h.policy ≡ p → h.policy ≡ Orb
    by Orb is = is
    by Corb is = absurd (cc (corb_decides h body is, ap is_some none))

-- the rule of the end that holds first
pub end_rule : Case → List ℕ → Option Rule
end_rule h body = first_rule (end_rows h body)

pub rule-halves : (h : Case) (body : List ℕ) → first_rule (rows_of h body) ≡ option_or (early_rule h body) (end_rule h body)
unfolding early_rule end_rule
rule-halves h body = first_rule-append (early_rows h body) (end_rows h body)

-- a rule holds
some_rule : (h : Case) (body : List ℕ) → is_some (first_rule (rows_of h body)) ≡ true
unfolding end_rows orb_end_rows end_rule
some_rule h body = by (early_rule h body) refl
  where
    by : (e : Option Rule) → early_rule h body ≡ e → is_some (first_rule (rows_of h body)) ≡ true
    by (Some r) is = ap is_some (rule-halves h body) ∙ ap (λ o. is_some (option_or o (end_rule h body))) is
    by None is =
        let holds : is_some (first_rule (end_rows_by Orb h body)) ≡ true = some_holds (orb_end_rows h body) refl in
        ap is_some (rule-halves h body) ∙ ap (λ o. is_some (option_or o (end_rule h body))) is
        ∙ subst (λ (p : Policy). is_some (first_rule (end_rows_by p h body)) ≡ true) (sym (undecided_is_orb h body is)) holds

pub first_is : (h : Case) (body : List ℕ) → first_rule (rows_of h body) ≡ Some (rule_of h body)
unfolding rule_of
first_is h body = by (first_rule (rows_of h body)) (some_rule h body)
  where
    by : (o : Option Rule) → is_some o ≡ true → o ≡ Some (unwrap_or o Script)
    by None some = absurd (cc some)
    by (Some r) some = refl

-- the function of a whole body
pub rule_is_computed : (h : Case) (body : List ℕ) (r : Rule) → IsRule h body r ↔ (rule_of h body ≡ r)
rule_is_computed h body r = (
  λ is. same_Some (rule_of h body) r (sym (first_is h body) ∙ first_rule-first (rows_of h body) r is),
  λ same. first-first_rule (rows_of h body) r (first_is h body ∙ ap (λ o. Some o) same),
)

-- the rule of head or window decides the whole body
pub early_decides : (h : Case) (body : List ℕ) (r : Rule) → early_rule h body ≡ Some r → rule_of h body ≡ r
early_decides h body r is =
    same_Some (rule_of h body) r (sym (first_is h body) ∙ rule-halves h body ∙ ap (λ o. option_or o (end_rule h body)) is)

-- and where there is none, that of the end does
pub end_decides : (h : Case) (body : List ℕ) → early_rule h body ≡ None → Some (rule_of h body) ≡ first_rule (orb_end_rows h body)
unfolding end_rows end_rule
end_decides h body none =
    sym (first_is h body) ∙ rule-halves h body ∙ ap (λ o. option_or o (end_rule h body)) none
    ∙ ap (λ p. first_rule (end_rows_by p h body)) (undecided_is_orb h body none)
