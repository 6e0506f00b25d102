-- What a prefix of a body settles.
use Rattle.std.proofs.Common.{◌≡◌, ℕ, ◌<◌, Bool, true, false, not, List, [], ◌∷◌, ◌++◌, length, Option, Some, None, is_none, ◌↔◌, if◌then◌else◌, refl, sym, ap, ◌∙◌, subst, arith, length-append}
use Rattle.std.specs.Option.{option_or}
use Rattle.std.proofs.lemmas.List.{take-append-le}
use Rattle.std.proofs.lemmas.Option.{none-some, same_Some}
use Rattle.response_rules.specs.declared.rules.Rule.{Rule}
use Rattle.response_rules.specs.declared.verdicts.Policy.{Policy}
use Rattle.response_rules.specs.declared.verdicts.Policy.TheVariants.{Orb, Corb}
use Rattle.response_rules.specs.Rules.{Part, at_head, at_window, at_end, settled_by, row_of, is_allowing}
use Rattle.response_rules.specs.Heads.{Case}
use Rattle.signatures.specs.Window.{window_size, window_of}
use Rattle.response_rules.specs.Tables.{head_rows, head_rows_by, orb_head_rows, corb_head_rows, window_rows, window_rows_by, orb_window_rows, corb_window_rows, orb_end_rows, first_rule, early_rule, rule_of}
use Rattle.response_rules.specs.Settled.{is_full, is_there, IsSettled, head_rule_of, rule_in_window, settled_rule, is_some_rule, is_sent, is_blocked, is_in_text}
use Rattle.response_rules.proofs.TableLemmas.{rule_is_computed, early-halves, early_decides, end_decides}

-- each rule of the table is settled by the part
Settles : Part → List (Rule × Bool) → Type 0
Settles part [] = Unit {0}
Settles part (row ∷ rows) = (settled_by row.0 ≡ part) × Settles part rows

first_rule-part : (part : Part) (rows : List (Rule × Bool)) (r : Rule) → Settles part rows → first_rule rows ≡ Some r → settled_by r ≡ part
unfolding Settles
first_rule-part part [] r settles is = absurd (none-some r is)
first_rule-part part ((s, true) ∷ rows) r settles is = sym (ap settled_by (same_Some s r is)) ∙ settles.0
first_rule-part part ((s, false) ∷ rows) r settles is = first_rule-part part rows r settles.1 is

head_rows-part : (p : Policy) (h : Case) (r : Rule) → first_rule (head_rows_by p h) ≡ Some r → settled_by r ≡ at_head
unfolding orb_head_rows corb_head_rows row_of Settles
head_rows-part Orb h r is =
    first_rule-part at_head (orb_head_rows h) r (refl, (refl, (refl, (refl, (refl, (refl, (refl, (refl, (refl, tt))))))))) is
head_rows-part Corb h r is =
    first_rule-part at_head (corb_head_rows h) r (refl, (refl, (refl, (refl, (refl, (refl, tt)))))) is

head_rule-part : (h : Case) (r : Rule) → head_rule_of h ≡ Some r → settled_by r ≡ at_head
unfolding head_rule_of head_rows
head_rule-part h r is = head_rows-part h.policy h r is

window_rows-part : (p : Policy) (h : Case) (window : List ℕ) (r : Rule) → first_rule (window_rows_by p h window) ≡ Some r
    → settled_by r ≡ at_window
unfolding orb_window_rows corb_window_rows row_of Settles
window_rows-part Orb h window r is =
    first_rule-part at_window (orb_window_rows h window) r (refl, (refl, (refl, (refl, (refl, (refl, (refl, (refl, (refl, tt))))))))) is
window_rows-part Corb h window r is =
    first_rule-part at_window (corb_window_rows h window) r (refl, (refl, (refl, (refl, (refl, (refl, (refl, tt))))))) is

window_rule-part : (h : Case) (window : List ℕ) (r : Rule) → rule_in_window h window ≡ Some r → settled_by r ≡ at_window
unfolding rule_in_window window_rows
window_rule-part h window r is = window_rows-part h.policy h window r is

end_rule-part : (h : Case) (body : List ℕ) (r : Rule) → first_rule (orb_end_rows h body) ≡ Some r → settled_by r ≡ at_end
unfolding orb_end_rows row_of Settles
end_rule-part h body r is = first_rule-part at_end (orb_end_rows h body) r (refl, (refl, (refl, (refl, tt)))) is

-- from what is settled to the function, over the rules of head and window
settled_to : (a w : Option Rule) (prefix : List ℕ) (r : Rule) → (w ≡ Some r → settled_by r ≡ at_window)
    → option_or a w ≡ Some r → is_there (settled_by r) prefix false ≡ true
    → option_or a (if is_full prefix then w else None) ≡ Some r
settled_to (Some s) w prefix r part is there = is
settled_to None w prefix r part is there =
    let full : is_full prefix ≡ true = subst (λ p. is_there p prefix false ≡ true) (part is) there in
    rw full is

settled_from : (a w : Option Rule) (prefix : List ℕ) (r : Rule)
    → (a ≡ Some r → settled_by r ≡ at_head) → (w ≡ Some r → settled_by r ≡ at_window)
    → option_or a (if is_full prefix then w else None) ≡ Some r
    → (option_or a w ≡ Some r) × (is_there (settled_by r) prefix false ≡ true)
settled_from (Some s) w prefix r at_head_ at_window_ is =
    (is, subst (λ p. is_there p prefix false ≡ true) (sym (at_head_ is)) refl)
settled_from None w prefix r at_head_ at_window_ is =
    full_from (is_full prefix) refl is
  where
    full_from : (b : Bool) → is_full prefix ≡ b → (if b then w else None) ≡ Some r
        → (w ≡ Some r) × (is_there (settled_by r) prefix false ≡ true)
    full_from true full is = (is, subst (λ p. is_there p prefix false ≡ true) (sym (at_window_ is)) full)
    full_from false full is = absurd (none-some r is)

-- the rule that is settled, from the function
pub settled_early : (h : Case) (prefix : List ℕ) (r : Rule) → settled_rule h prefix ≡ Some r
    → (early_rule h prefix ≡ Some r) × (is_there (settled_by r) prefix false ≡ true)
unfolding settled_rule
settled_early h prefix r is =
    let both = settled_from (head_rule_of h) (rule_in_window h (window_of prefix)) prefix r
    (head_rule-part h r) (window_rule-part h (window_of prefix) r) is in
    (early-halves h prefix ∙ both.0, both.1)

-- and to it
early_settled : (h : Case) (prefix : List ℕ) (r : Rule) → early_rule h prefix ≡ Some r
    → is_there (settled_by r) prefix false ≡ true → settled_rule h prefix ≡ Some r
unfolding settled_rule
early_settled h prefix r is there =
    settled_to (head_rule_of h) (rule_in_window h (window_of prefix)) prefix r
    (window_rule-part h (window_of prefix) r) (sym (early-halves h prefix) ∙ is) there

-- a rule of the end isn't settled by a prefix
settled_rule_from : (h : Case) (prefix : List ℕ) (r : Rule) → rule_of h prefix ≡ r
    → is_there (settled_by r) prefix false ≡ true → settled_rule h prefix ≡ Some r
settled_rule_from h prefix r is there = by (early_rule h prefix) refl
  where
    by : (o : Option Rule) → early_rule h prefix ≡ o → settled_rule h prefix ≡ Some r
    by (Some s) early =
        let same : s ≡ r = sym (early_decides h prefix s early) ∙ is in
        early_settled h prefix r (early ∙ ap (λ x. Some x) same) there
    by None early =
        let part = end_rule-part h prefix r (sym (end_decides h prefix early) ∙ ap (λ x. Some x) is) in
        absurd (cc (subst (λ p. is_there p prefix false ≡ true) part there))

pub settled_is_computed : (h : Case) (prefix : List ℕ) (r : Rule) → IsSettled h r prefix false ↔ (settled_rule h prefix ≡ Some r)
settled_is_computed h prefix r = (
  (λ s. settled_rule_from h prefix r ((rule_is_computed h prefix r).0 s.decides_it) s.there),
  (λ is.
      let both = settled_early h prefix r is in
      record { decides_it = (rule_is_computed h prefix r).1 (early_decides h prefix r both.0); there = both.1 }),
)

-- a full window stays as it is
pub full_longer : (prefix more : List ℕ) → is_full prefix ≡ true → is_full (prefix ++ more) ≡ true
full_longer prefix more full = grind (arith, length-append prefix more, full)

pub window_longer : (prefix more : List ℕ) → is_full prefix ≡ true → window_of (prefix ++ more) ≡ window_of prefix
window_longer prefix more full = take-append-le window_size prefix more (grind (arith, full))

pub settled-full : (h : Case) (prefix more : List ℕ) → is_full prefix ≡ true → settled_rule h (prefix ++ more) ≡ settled_rule h prefix
unfolding settled_rule
settled-full h prefix more full =
    rw (full_longer prefix more full, window_longer prefix more full, full) refl

-- a rule that is settled stays
longer_by : (a w w' : Option Rule) (f f' : Bool) (r : Rule) → (f ≡ true → f' ≡ true) → (f ≡ true → w' ≡ w)
    → option_or a (if f then w else None) ≡ Some r → option_or a (if f' then w' else None) ≡ Some r
longer_by (Some s) w w' f f' r stays same is = is
longer_by None w w' true f' r stays same is = rw (stays refl, same refl) is
longer_by None w w' false f' r stays same is = absurd (none-some r is)

pub settled-longer : (h : Case) (prefix more : List ℕ) (r : Rule) → settled_rule h prefix ≡ Some r → settled_rule h (prefix ++ more) ≡ Some r
unfolding settled_rule
settled-longer h prefix more r is =
    longer_by (head_rule_of h) (rule_in_window h (window_of prefix)) (rule_in_window h (window_of (prefix ++ more)))
    (is_full prefix) (is_full (prefix ++ more)) r
    (full_longer prefix more) (λ full. ap (rule_in_window h) (window_longer prefix more full)) is

pub settled-decides : (h : Case) (prefix more : List ℕ) (r : Rule) → settled_rule h prefix ≡ Some r → rule_of h (prefix ++ more) ≡ r
settled-decides h prefix more r is =
    early_decides h (prefix ++ more) r (settled_early h (prefix ++ more) r (settled-longer h prefix more r is)).0

pub settled-decides_now : (h : Case) (prefix : List ℕ) (r : Rule) → settled_rule h prefix ≡ Some r → rule_of h prefix ≡ r
settled-decides_now h prefix r is = early_decides h prefix r (settled_early h prefix r is).0

-- what a test of the settled rule says
pub record Passes (test : Rule → Bool) (o : Option Rule) : Type 0 where
  pub found : Rule
  pub is : o ≡ Some found
  pub passes : test found ≡ true

passes_from : (test : Rule → Bool) (o : Option Rule) → is_some_rule test o ≡ true → Passes test o
passes_from test None is = grind (arith, is)
passes_from test (Some r) is = record { found = r; is = refl; passes = is }

test_longer : (test : Rule → Bool) (h : Case) (prefix more : List ℕ) → is_some_rule test (settled_rule h prefix) ≡ true
    → is_some_rule test (settled_rule h (prefix ++ more)) ≡ true
test_longer test h prefix more is =
    let p = passes_from test (settled_rule h prefix) is in
    rw (settled-longer h prefix more p.found p.is) p.passes

-- a body that may be passed on
pub sent-longer : (h : Case) (prefix more : List ℕ) → is_sent h prefix ≡ true → is_sent h (prefix ++ more) ≡ true
unfolding is_sent
sent-longer h prefix more is = test_longer is_allowing h prefix more is

pub sent-rule : (h : Case) (prefix more : List ℕ) → is_sent h prefix ≡ true → rule_of h (prefix ++ more) ≡ rule_of h prefix
unfolding is_sent
sent-rule h prefix more is =
    let p = passes_from is_allowing (settled_rule h prefix) is in
    settled-decides h prefix more p.found p.is ∙ sym (settled-decides_now h prefix p.found p.is)

pub sent-allows : (h : Case) (prefix : List ℕ) → is_sent h prefix ≡ true → is_allowing (rule_of h prefix) ≡ true
unfolding is_sent
sent-allows h prefix is =
    let p = passes_from is_allowing (settled_rule h prefix) is in
    ap is_allowing (settled-decides_now h prefix p.found p.is) ∙ p.passes

-- a response that is blocked

not_true : (b : Bool) → not b ≡ true → b ≡ false
not_true true is = sym is
not_true false is = refl

pub blocked-longer : (h : Case) (prefix more : List ℕ) → is_blocked h prefix ≡ true → is_blocked h (prefix ++ more) ≡ true
unfolding is_blocked
blocked-longer h prefix more is = test_longer (λ r. not (is_allowing r)) h prefix more is

pub blocked-blocks : (h : Case) (prefix more : List ℕ) → is_blocked h prefix ≡ true → is_allowing (rule_of h (prefix ++ more)) ≡ false
unfolding is_blocked
blocked-blocks h prefix more is =
    let p = passes_from (λ s. not (is_allowing s)) (settled_rule h prefix) is in
    ap is_allowing (settled-decides h prefix more p.found p.is) ∙ not_true (is_allowing p.found) p.passes

pub blocked-unsent : (h : Case) (prefix : List ℕ) → is_blocked h prefix ≡ true → is_sent h prefix ≡ false
unfolding is_blocked is_sent
blocked-unsent h prefix is =
    let p = passes_from (λ s. not (is_allowing s)) (settled_rule h prefix) is in
    rw p.is (not_true (is_allowing p.found) p.passes)

-- what the two tests say of the rule that is settled
tested : (test : Rule → Bool) (h : Case) (prefix : List ℕ)
    → (is_some_rule test (settled_rule h prefix) ≡ true) ↔ ((r : Rule) × IsSettled h r prefix false × (test r ≡ true))
tested test h prefix = (
  (λ is.
      let p = passes_from test (settled_rule h prefix) is in
      (p.found, (settled_is_computed h prefix p.found).1 p.is, p.passes)),
  (λ s. ap (is_some_rule test) ((settled_is_computed h prefix s.0).0 s.1) ∙ s.2),
)

not_false : (b : Bool) → b ≡ false → not b ≡ true
not_false b is = ap not is

pub sent-settled : (h : Case) (prefix : List ℕ)
    → (is_sent h prefix ≡ true) ↔ ((r : Rule) × IsSettled h r prefix false × (is_allowing r ≡ true))
unfolding is_sent
sent-settled h prefix = tested is_allowing h prefix

pub blocked-settled : (h : Case) (prefix : List ℕ)
    → (is_blocked h prefix ≡ true) ↔ ((r : Rule) × IsSettled h r prefix false × (is_allowing r ≡ false))
unfolding is_blocked
blocked-settled h prefix =
    let t = tested (λ r. not (is_allowing r)) h prefix in (
      (λ is. let s = t.0 is in (s.0, s.1, not_true (is_allowing s.0) s.2)),
      (λ s. t.1 (s.0, s.1, not_false (is_allowing s.0) s.2)),
    )

-- the settled rule of a full window, and of one that isn't
full_halves : (a w : Option Rule) (f : Bool) → f ≡ true → option_or a (if f then w else None) ≡ option_or a w
full_halves a w f full = rw full refl

short_halves : (a w : Option Rule) (f : Bool) → f ≡ false → option_or a (if f then w else None) ≡ a
short_halves None w f short = rw short refl
short_halves (Some r) w f short = refl

pub settled-whole : (h : Case) (prefix : List ℕ) → is_full prefix ≡ true → settled_rule h prefix ≡ early_rule h prefix
unfolding settled_rule
settled-whole h prefix full =
    full_halves (head_rule_of h) (rule_in_window h (window_of prefix)) (is_full prefix) full ∙ sym (early-halves h prefix)

pub settled-short : (h : Case) (prefix : List ℕ) → is_full prefix ≡ false → settled_rule h prefix ≡ head_rule_of h
unfolding settled_rule
settled-short h prefix short =
    short_halves (head_rule_of h) (rule_in_window h (window_of prefix)) (is_full prefix) short

-- neither sent nor blocked nor read as text: the window isn't full
neither : (o : Option Rule) → is_some_rule is_allowing o ≡ false → is_some_rule (λ r. not (is_allowing r)) o ≡ false → is_none o ≡ true
neither None unsent unblocked = refl
neither (Some r) unsent unblocked = grind (arith, ap not unsent, unblocked)

pub open-short : (h : Case) (prefix : List ℕ) → is_sent h prefix ≡ false → is_blocked h prefix ≡ false → is_in_text h prefix ≡ false
    → length prefix < window_size
unfolding is_sent is_blocked is_in_text
open-short h prefix unsent unblocked untext =
    short (is_full prefix) refl
  where
    short : (f : Bool) → is_full prefix ≡ f → length prefix < window_size
    short false is = grind (arith, is)
    short true is =
        grind (arith, untext, is, settled-whole h prefix is, neither (settled_rule h prefix) unsent unblocked)
