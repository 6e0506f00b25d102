-- What a decider keeps of a body.
use Rattle.std.proofs.Common.{◌≡◌, ℕ, ◌+◌, ◌==◌, Bool, true, false, not, nat_lt, nat_le, suc, zero, min, List, [], ◌∷◌, ◌++◌, length, take, Option, Some, None, is_some, is_none, refl, sym, ap, subst, ◌∙◌, arith, length-append}
use Rattle.std.specs.Option.{option_or}
use Rattle.std.proofs.Math.Seq.{take-append-add}
use Rattle.std.proofs.lemmas.List.{length-take, take_all}
use Rattle.std.proofs.lemmas.Bool.Decides.{nat_tests}
use Rattle.response_rules.specs.declared.rules.Rule.{Rule}
use Rattle.response_rules.specs.declared.deciding.Count.{Count}
use Rattle.response_rules.specs.declared.deciding.Decider.{Decider}
use Rattle.response_rules.specs.Heads.{Case}
use Rattle.response_rules.specs.Reads.{HasCounted, Stands}
use Rattle.signatures.specs.Window.{window_size, window_of}
use Rattle.response_rules.specs.Tables.{early_rule}
use Rattle.response_rules.specs.Settled.{is_full, is_in_text, rule_in_window, settled_rule}
use Rattle.response_rules.proofs.TableLemmas.{early-halves}
use Rattle.response_rules.proofs.SettledLemmas.{full_longer, window_longer, settled-short, settled-whole, settled-full}
use Rattle.response_rules.proofs.HopelessLemmas.{early-longer}

-- as much of a text as there is room for
pub filled : (xs ys : List ℕ) (room n : ℕ) → room + length xs ≡ n → xs ++ take room ys ≡ take n (xs ++ ys)
filled xs ys room n fits =
    sym (take-append-add xs ys room) ∙ ap (λ k. take k (xs ++ ys)) (omega (arith, fits))

-- as much as there is of it
pub take_least : (n room : ℕ) (ys : List ℕ) → n ≡ min room (length ys) → take n ys ≡ take room ys
take_least n room ys is = ap (λ k. take k ys) is ∙ by (nat_le room (length ys)) refl
  where
    by : (b : Bool) → nat_le room (length ys) ≡ b → take (min room (length ys)) ys ≡ take room ys
    by true fits = ap (λ k. take k ys) (grind (arith, nat_tests, fits))
    by false over =
        let whole : min room (length ys) ≡ length ys = grind (arith, nat_tests, over) in
        ap (λ k. take k ys) whole ∙ take_all (length ys) ys (omega arith) ∙ sym (take_all room ys (grind (arith, nat_tests, over)))

take_on : (n : ℕ) (m p : List ℕ) → take n (take n m ++ p) ≡ take n (m ++ p)
take_on zero m p = refl
take_on (suc n) [] p = refl
take_on (suc n) (x ∷ m) p = ap (λ l. x ∷ l) (take_on n m p)

-- the window, read on
pub window-on : (m p window : List ℕ) → window ≡ window_of m → take 1024 (window ++ p) ≡ window_of (m ++ p)
unfolding window_size
window-on m p window is = ap (λ w. take 1024 (w ++ p)) is ∙ take_on 1024 m p

taken_all : (n : ℕ) (m : List ℕ) → (length (take n m) == n) ≡ nat_le n (length m)
taken_all n m = grind (arith, nat_tests, length-take n m)

-- the window is full
pub full_by : (m window : List ℕ) → window ≡ window_of m → (length window == 1024) ≡ is_full m
unfolding window_size
full_by m window is = ap (λ w. length w == 1024) is ∙ taken_all 1024 m

pub window-empty : window_of [] ≡ []
unfolding window_size
window-empty = refl

pub empty-short : is_full [] ≡ false
unfolding window_size
empty-short = refl

-- the rule that is settled, read on: the window was full, isn't full yet, or is full now
pub settled_on-full : (h : Case) (m p : List ℕ) (settled : Option Rule) → settled ≡ settled_rule h m → is_full m ≡ true
    → settled ≡ settled_rule h (m ++ p)
settled_on-full h m p settled is full = is ∙ sym (settled-full h m p full)

pub settled_on-short : (h : Case) (m p : List ℕ) (settled : Option Rule) → settled ≡ settled_rule h m
    → is_full m ≡ false → is_full (m ++ p) ≡ false → settled ≡ settled_rule h (m ++ p)
settled_on-short h m p settled is short short' = is ∙ (settled-short h m short ∙ sym (settled-short h (m ++ p) short'))

pub settled_on-filled : (h : Case) (m p : List ℕ) (settled : Option Rule) → settled ≡ settled_rule h m
    → is_full m ≡ false → is_full (m ++ p) ≡ true
    → option_or settled (rule_in_window h (window_of (m ++ p))) ≡ settled_rule h (m ++ p)
settled_on-filled h m p settled is short full =
    ap (λ o. option_or o (rule_in_window h (window_of (m ++ p)))) (is ∙ settled-short h m short)
    ∙ (sym (early-halves h (m ++ p)) ∙ sym (settled-whole h (m ++ p) full))

-- the rule of head and window, before the window is full
pub rule_by-short : (h : Case) (m : List ℕ) (settled : Option Rule) → settled ≡ settled_rule h m → is_full m ≡ false
    → option_or settled (rule_in_window h (window_of m)) ≡ early_rule h m
rule_by-short h m settled is short =
    ap (λ o. option_or o (rule_in_window h (window_of m))) (is ∙ settled-short h m short) ∙ sym (early-halves h m)

none_by : (o : Option Rule) (b : Bool) → is_some o ≡ not b → b ≡ is_none o
none_by None true is = refl
none_by None false is = is
none_by (Some r) true is = is
none_by (Some r) false is = refl

-- the body is read as text
pub text_by-full : (h : Case) (m : List ℕ) (settled : Option Rule) (b : Bool) → settled ≡ settled_rule h m
    → is_full m ≡ true → is_some settled ≡ not b → b ≡ is_in_text h m
unfolding is_in_text
text_by-full h m settled b is full some =
    none_by settled b some ∙ (ap is_none (is ∙ settled-whole h m full) ∙ rw full refl)

pub text_by-short : (h : Case) (m : List ℕ) → is_full m ≡ false → false ≡ is_in_text h m
unfolding is_in_text
text_by-short h m short = rw short refl

-- a body whose window is full, read on
pub stands_full : (d e : Decider) (h : Case) (m p : List ℕ) → e.facts ≡ d.facts → e.settled ≡ d.settled → e.window.items ≡ d.window.items
    → e.finished ≡ d.finished → is_full m ≡ true → Stands d h m → Stands e h (m ++ p)
stands_full d e h m p facts settled window finished full r = record {
  states = r.states;
  facts = facts ∙ r.facts;
  settled = settled_on-full h m p e.settled (settled ∙ r.settled) full;
  window = window ∙ (r.window ∙ sym (window_longer m p full));
  active = finished ∙ r.active;
}

-- whether it is read as text
pub text_still : (h : Case) (m p : List ℕ) → is_full m ≡ true → is_in_text h (m ++ p) ≡ is_in_text h m
unfolding is_in_text
text_still h m p full = rw (full_longer m p full, full, early-longer h m p full) refl

-- a body whose window isn't full is its window
pub window_whole : (m : List ℕ) → is_full m ≡ false → window_of m ≡ m
unfolding window_size
window_whole m short = take_all 1024 m (grind (arith, nat_tests, short))

-- the count of bytes
pub counted_on : (c : Count) (limit : ℕ) (m p : List ℕ) → HasCounted c limit (length m + length p) → HasCounted c limit (length (m ++ p))
counted_on c limit m p counted = subst (HasCounted c limit) (sym (length-append m p)) counted

pub not_over_before : (limit : ℕ) (m p : List ℕ) → nat_lt limit (length (m ++ p)) ≡ false → nat_lt limit (length m) ≡ false
not_over_before limit m p within = grind (arith, nat_tests, length-append m p, within)
