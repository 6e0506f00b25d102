-- Recordings that are one step longer.
use Rattle.std.proofs.Common.{◌≡◌, ℕ, suc, cond, ◌+◌, ◌≤◌, Bool, true, false, List, [], ◌∷◌, ◌++◌, length, refl, sym, ap, ◌∙◌, arith, append_assoc, length-append}
use Rattle.std.specs.Prelude.{not, count_by}
use Rattle.std.proofs.lemmas.List.{append-nil}
use Rattle.std.proofs.lemmas.List.Sums.{sum_by-cons, sum_by-append}
use Rattle.media_state.specs.Table.{States}
use Rattle.response_rules.specs.declared.rules.Rule.{Rule}
use Rattle.response_rules.specs.Rules.{is_allowing}
use Rattle.orb_engine.specs.declared.settings.Settings.{Settings}
use Rattle.orb_engine.specs.declared.progress.Counts.{Counts}
use Rattle.orb_engine.specs.Judged.{response_of}
use Rattle.orb_engine.specs.Recording.{Exchange, IsExchange, AreExchanges, exchange_text, exchanges_text, table_after, table_after_all}
use Rattle.orb_engine.specs.Outputs.{written_exchanges, written_whole}
use Rattle.orb_engine.specs.Counts.{rules_of_exchanges, count_allowed, count_blocked}
use Rattle.orb_engine.specs.Progress.{count_with}
use Rattle.orb_engine.specs.Reads.{counts_of}
use Rattle.http_exchange.proofs.EndLemmas.{head_length-bounds}

pair : (a b c d : ℕ) → a ≡ c → b ≡ d → ◌≡◌ {A = Counts} (record { allowed = a; blocked = b }) (record { allowed = c; blocked = d })
pair a b c d p q = rw (p, q) refl

heads_text-append : (i : Exchange) (x u : List ℕ) → exchange_text i x ++ u ≡ exchange_text i (x ++ u)
heads_text-append i x u = simp append_assoc

pub exchanges_text-append : (exchanges : List Exchange) (x u : List ℕ) → exchanges_text exchanges x ++ u ≡ exchanges_text exchanges (x ++ u)
exchanges_text-append [] x u = refl
exchanges_text-append (i ∷ exchanges) x u = heads_text-append i (exchanges_text exchanges x) u ∙ ap (exchange_text i) (exchanges_text-append exchanges x u)

pub exchanges_text-length : (exchanges : List Exchange) (x : List ℕ) → length (exchanges_text exchanges x) ≡ length (exchanges_text exchanges []) + length x
exchanges_text-length exchanges x = ap length (sym (exchanges_text-append exchanges [] x)) ∙ length-append (exchanges_text exchanges []) x

pub exchanges_text-snoc : (exchanges : List Exchange) (i : Exchange) (x : List ℕ) → exchanges_text (exchanges ++ (i ∷ [])) x ≡ exchanges_text exchanges (exchange_text i x)
exchanges_text-snoc [] i x = refl
exchanges_text-snoc (j ∷ exchanges) i x = ap (exchange_text j) (exchanges_text-snoc exchanges i x)

pub table-snoc : (table : States) (exchanges : List Exchange) (i : Exchange) → table_after_all table (exchanges ++ (i ∷ [])) ≡ table_after (table_after_all table exchanges) i
table-snoc table [] i = refl
table-snoc table (j ∷ exchanges) i = table-snoc (table_after table j) exchanges i

pub exchanges-snoc : (s : Settings) (table : States) (exchanges : List Exchange) (i : Exchange) → AreExchanges s table exchanges
    → IsExchange s (table_after_all table exchanges) i → AreExchanges s table (exchanges ++ (i ∷ []))
exchanges-snoc s table [] i are is = (is, tt)
exchanges-snoc s table (j ∷ exchanges) i are is = (are.0, exchanges-snoc s (table_after table j) exchanges i are.1 is)

pub written-snoc : (s : Settings) (table : States) (n : ℕ) (exchanges : List Exchange) (i : Exchange)
    → written_exchanges s table n (exchanges ++ (i ∷ []))
    ≡ written_exchanges s table n exchanges ++ written_whole s.job ((n + length exchanges) + 1) (response_of s (table_after_all table exchanges) i.heads) i.body
written-snoc s table n [] i =
    let offset : n + 1 ≡ (n + 0) + 1 = omega arith in
    append-nil (written_whole s.job (n + 1) (response_of s table i.heads) i.body)
    ∙ ap (λ k. written_whole s.job k (response_of s table i.heads) i.body) offset
written-snoc s table n (j ∷ exchanges) i =
    let offset : ((n + 1) + length exchanges) + 1 ≡ (n + length (j ∷ exchanges)) + 1 = omega arith in
    ap (λ t. written_whole s.job (n + 1) (response_of s table j.heads) j.body ++ t)
    (written-snoc s (table_after table j) (n + 1) exchanges i
    ∙ ap (λ k. written_exchanges s (table_after table j) (n + 1) exchanges ++ written_whole s.job k (response_of s (table_after_all (table_after table j) exchanges) i.heads) i.body) offset)
    ∙ sym (append_assoc (written_whole s.job (n + 1) (response_of s table j.heads) j.body) (written_exchanges s (table_after table j) (n + 1) exchanges) _)

pub rules-snoc : (exchanges : List Exchange) (i : Exchange) → rules_of_exchanges (exchanges ++ (i ∷ [])) ≡ rules_of_exchanges exchanges ++ (i.rule ∷ [])
rules-snoc [] i = refl
rules-snoc (j ∷ exchanges) i = ap (λ t. j.rule ∷ t) (rules-snoc exchanges i)

count-cons : (p : Rule → Bool) (r : Rule) (rules : List Rule) → count_by p (r ∷ rules) ≡ cond (p r) 1 0 + count_by p rules
count-cons p r rules = sum_by-cons (λ x. cond (p x) 1 0) r rules

one-verdict : (b : Bool) (m n k : ℕ) → m + n ≡ k → (cond b 1 0 + m) + (cond (not b) 1 0 + n) ≡ suc k
one-verdict true m n k h = omega arith
one-verdict false m n k h = omega arith

pub count-sum : (rules : List Rule) → count_allowed rules + count_blocked rules ≡ length rules
count-sum [] = refl
count-sum (r ∷ rules) =
    rw (count-cons is_allowing r rules, count-cons (λ x. not (is_allowing x)) r rules)
    (one-verdict (is_allowing r) (count_allowed rules) (count_blocked rules) (length rules) (count-sum rules))

-- one exchange more
pub counts-snoc : (rules : List Rule) (r : Rule) → counts_of (rules ++ (r ∷ [])) ≡ count_with (counts_of rules) (is_allowing r)
counts-snoc rules r =
    let a = count-append is_allowing rules (r ∷ []) ∙ ap (λ n. count_allowed rules + n) (count-cons is_allowing r []) in
    let b = count-append (λ x. not (is_allowing x)) rules (r ∷ []) ∙ ap (λ n. count_blocked rules + n) (count-cons (λ x. not (is_allowing x)) r []) in
    by (is_allowing r) (count_allowed (rules ++ (r ∷ []))) (count_blocked (rules ++ (r ∷ []))) a b
  where
    count-append : (p : Rule → Bool) (xs ys : List Rule) → count_by p (xs ++ ys) ≡ count_by p xs + count_by p ys
    count-append p xs ys = sum_by-append (λ x. cond (p x) 1 0) xs ys

    by : (v : Bool) (m n : ℕ) → m ≡ count_allowed rules + (cond v 1 0 + 0) → n ≡ count_blocked rules + (cond (not v) 1 0 + 0)
        → ◌≡◌ {A = Counts} (record { allowed = m; blocked = n }) (count_with (counts_of rules) v)
    by true m n a b = rw (a, b) (pair _ _ _ _ (omega arith) (omega arith))
    by false m n a b = rw (a, b) (pair _ _ _ _ (omega arith) (omega arith))

pub rules-length : (exchanges : List Exchange) → length (rules_of_exchanges exchanges) ≡ length exchanges
rules-length [] = refl
rules-length (i ∷ exchanges) = ap suc (rules-length exchanges)

-- each exchange has some bytes
pub exchanges-few : (s : Settings) (table : States) (exchanges : List Exchange) (x : List ℕ) → AreExchanges s table exchanges
    → length exchanges ≤ length (exchanges_text exchanges x)
exchanges-few s table [] x are = omega arith
exchanges-few s table (i ∷ exchanges) x are =
    let rest = exchanges-few s (table_after table i) exchanges x are.1 in
    let some = head_length-bounds i.heads.request.bytes (length i.heads.request.bytes) are.0.heads.request.head.text.ends in
    simp length-append (omega arith)
