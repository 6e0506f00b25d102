-- Two cuttings of the same bytes, by what they cut first.
use Rattle.std.proofs.Common.{◌≡◌, ℕ, ◌+◌, Bool, true, List, [], ◌∷◌, ◌++◌, length, refl, sym, ap, subst, ◌∙◌}
use Rattle.std.proofs.lemmas.List.{append-nil, append_cancel_left}
use Rattle.media_state.specs.Table.{States}
use Rattle.http_exchange.specs.Frames.{IsBodyPrefix, IsWhole}
use Rattle.http_exchange.proofs.UnframerLemmas.{one_prefix}
use Rattle.orb_engine.specs.declared.settings.Settings.{Settings}
use Rattle.exchanges.specs.Heads.{Heads}
use Rattle.orb_engine.specs.Recording as cut
use Rattle.orb_engine.specs.Recording.{Tail, IsTail, IsOpenBody, IsBadBody, tail_text, is_open}
use Rattle.orb_engine.specs.Ends.{Bad, HeadLimit, stop_at}
use Rattle.orb_engine.specs.Outputs.{written_tail}
use Rattle.orb_engine.specs.Counts.{rules_of_tail}
use Rattle.exchanges.proofs.BodyLaws.{whole_not_open, whole_not_stuck, open_not_stuck, same_stuck}
use Rattle.orb_engine.proofs.StartLaws.{IsStart, one_start, ask_of, answer_of, start_of_tail, same_heads}

-- two tails of which the same is answered
pub record IsAlike (s : Settings) (t u : Tail) : Type 0 where
  pub stop : (offset : ℕ) (ended : Bool) → stop_at offset ended t ≡ stop_at offset ended u
  pub written : (table : States) (before : ℕ) (ended : Bool) → written_tail s table before ended t ≡ written_tail s table before ended u
  pub rules : (table : States) (ended : Bool) → rules_of_tail s table ended t ≡ rules_of_tail s table ended u

same_alike : (s : Settings) (t u : Tail) → t ≡ u → IsAlike s t u
same_alike s t u e = record {
  stop = λ offset ended. ap (stop_at offset ended) e;
  written = λ table before ended. ap (written_tail s table before ended) e;
  rules = λ table ended. ap (rules_of_tail s table ended) e;
}

-- ---- bodies of the same heads

-- a whole body isn't one that may go on
pub whole_not_sending : (table : States) (h : Heads) (m r n c : List ℕ)
    → IsWhole h.response.frame m → IsOpenBody table h n c → m ++ r ≡ n → ⊥
whole_not_sending table h m r n c whole y e = whole_not_open h.response.frame m r n c whole y.prefix y.unfinished e

pub whole_not_bad : (table : States) (h : Heads) (m r n q g c : List ℕ) (b : ℕ)
    → IsWhole h.response.frame m → IsBodyPrefix h.response.frame m g → IsBadBody table h n c b
    → m ++ r ≡ n ++ (b ∷ q) → ⊥
whole_not_bad table h m r n q g c b whole x y e =
    whole_not_stuck h.response.frame m r n q g c b whole x y.sending.prefix y.sending.unfinished y.bad e

sending_not_bad : (table : States) (h : Heads) (m n q g c : List ℕ) (b : ℕ)
    → IsOpenBody table h m g → IsBadBody table h n c b → m ≡ n ++ (b ∷ q) → ⊥
sending_not_bad table h m n q g c b x y e = open_not_stuck h.response.frame m n q g b x.prefix y.bad e

same_sending : (table : States) (h : Heads) (m n g c : List ℕ) → IsOpenBody table h m g → IsOpenBody table h n c
    → m ≡ n → cut.InBody h m g ≡ cut.InBody h n c
same_sending table h m n g c x y same =
    let contents : g ≡ c =
    one_prefix h.response.frame m g c x.prefix (subst (λ l. IsBodyPrefix h.response.frame l c) (sym same) y.prefix) in cc

same_bad : (table : States) (h : Heads) (m r n q g c : List ℕ) (b d : ℕ) → IsBadBody table h m g b
    → IsBadBody table h n c d → m ++ (b ∷ r) ≡ n ++ (d ∷ q) → cut.BadBody h m g b ≡ cut.BadBody h n c d
same_bad table h m r n q g c b d x y e =
    let f = h.response.frame in
    let both = same_stuck f m r n q g c b d x.bad y.bad x.sending.prefix y.sending.prefix e in
    let same : m ≡ n = both.0 in
    let contents : g ≡ c = both.1 in
    let rests : b ∷ r ≡ d ∷ q = append_cancel_left m (b ∷ r) (d ∷ q) (e ∙ ap (λ z. z ++ (d ∷ q)) (sym same)) in
    let bytes : b ≡ d = cc in
    cc

-- ---- two tails that begin the same bytes

-- what stands after the heads, in the words of the other's
pub moved : (P : Heads → Type 0) (h k : Heads) → h ≡ k → P k → P h
moved P h k e y = subst P (sym e) y

-- bytes of which nothing follows
pub alone : (m more : List ℕ) → more ≡ [] → m ++ more ≡ m
alone m more none = ap (λ l. m ++ l) none ∙ append-nil m

alike_by : (s : Settings) (table : States) (t : Tail) (more : List ℕ) (u : Tail) (others : List ℕ)
    → IsTail table t → IsTail table u → (is_open t ≡ true → more ≡ []) → (is_open u ≡ true → others ≡ [])
    → tail_text t more ≡ tail_text u others
    → ask_of t more ≡ ask_of u others → answer_of t more ≡ answer_of u others → IsAlike s t u
alike_by s table (cut.InRequestHead head) more (cut.InRequestHead text) others x y last end e a b =
    let none : more ≡ [] = last refl in
    let nothing : others ≡ [] = end refl in
    let same : head ≡ text =
    sym (append-nil head) ∙ ap (λ l. head ++ l) (sym none) ∙ e ∙ ap (λ l. text ++ l) nothing ∙ append-nil text in
    same_alike s (cut.InRequestHead head) (cut.InRequestHead text) (ap cut.InRequestHead same)
alike_by s table (cut.InRequestHead head) more _ others x y last end e a b = absurd (cc)
alike_by s table (cut.InResponseHead r head) more (cut.InResponseHead q text) others x y last end e a b = record {
  stop = λ offset ended. refl;
  written = λ table before ended. refl;
  rules = λ table ended. refl;
}
alike_by s table (cut.InResponseHead r head) more _ others x y last end e a b = absurd (cc)
alike_by s table (cut.LongRequest head) more (cut.LongRequest text) others x y last end e a b = record {
  stop = λ offset ended. refl;
  written = λ table before ended. refl;
  rules = λ table ended. refl;
}
alike_by s table (cut.LongRequest head) more _ others x y last end e a b = absurd (cc)
alike_by s table (cut.BadRequest head kind) more (cut.BadRequest text other) others x y last end e a b =
    let kinds : kind ≡ other = cc in
    record {
      stop = λ offset ended. ap (λ k. Bad k offset) kinds;
      written = λ table before ended. refl;
      rules = λ table ended. refl;
    }
alike_by s table (cut.BadRequest head kind) more _ others x y last end e a b = absurd (cc)
alike_by s table (cut.FullTable r) more (cut.FullTable q) others x y last end e a b = record {
  stop = λ offset ended. refl;
  written = λ table before ended. refl;
  rules = λ table ended. refl;
}
alike_by s table (cut.FullTable r) more _ others x y last end e a b = absurd (cc)
alike_by s table (cut.LongResponse r head) more (cut.LongResponse q text) others x y last end e a b =
    let requests : r ≡ q = cc in
    record {
      stop = λ offset ended. ap (λ k. HeadLimit (offset + length k.bytes)) requests;
      written = λ table before ended. refl;
      rules = λ table ended. refl;
    }
alike_by s table (cut.LongResponse r head) more _ others x y last end e a b = absurd (cc)
alike_by s table (cut.BadResponse r head kind) more (cut.BadResponse q text other) others x y last end e a b =
    let requests : r ≡ q = cc in
    let kinds : kind ≡ other = cc in
    record {
      stop = λ offset ended. ap (λ k. Bad kind (offset + length k.bytes)) requests ∙ ap (λ k. Bad k (offset + length q.bytes)) kinds;
      written = λ table before ended. refl;
      rules = λ table ended. refl;
    }
alike_by s table (cut.BadResponse r head kind) more _ others x y last end e a b = absurd (cc)
alike_by s table (cut.InBody h m g) more (cut.InBody k n c) others x y last end e a b =
    let p = same_heads h k _ _ (m ++ more) (n ++ others) a b in
    let same : m ≡ n = sym (alone m more (last refl)) ∙ p.1 ∙ alone n others (end refl) in
    let moves : IsOpenBody table h n c = moved (λ j. IsOpenBody table j n c) h k p.0 y in
    same_alike s (cut.InBody h m g) (cut.InBody k n c)
    (same_sending table h m n g c x moves same ∙ ap (λ j. cut.InBody j n c) p.0)
alike_by s table (cut.InBody h m g) more (cut.BadBody k n c d) others x y last end e a b =
    let p = same_heads h k _ _ (m ++ more) (n ++ (d ∷ others)) a b in
    absurd (sending_not_bad table h m n others g c d x (moved (λ j. IsBadBody table j n c d) h k p.0 y) (sym (alone m more (last refl)) ∙ p.1))
alike_by s table (cut.InBody h m g) more _ others x y last end e a b = absurd (cc)
alike_by s table (cut.BadBody h m g d) more (cut.InBody k n c) others x y last end e a b =
    let p = same_heads h k _ _ (m ++ (d ∷ more)) (n ++ others) a b in
    absurd (sending_not_bad table h n m more c g d (moved (λ j. IsOpenBody table j n c) h k p.0 y) x (sym (alone n others (end refl)) ∙ sym p.1))
alike_by s table (cut.BadBody h m g d) more (cut.BadBody k n c f) others x y last end e a b =
    let p = same_heads h k _ _ (m ++ (d ∷ more)) (n ++ (f ∷ others)) a b in
    let moves : IsBadBody table h n c f = moved (λ j. IsBadBody table j n c f) h k p.0 y in
    same_alike s (cut.BadBody h m g d) (cut.BadBody k n c f)
    (same_bad table h m more n others g c d f x moves p.1 ∙ ap (λ j. cut.BadBody j n c f) p.0)
alike_by s table (cut.BadBody h m g d) more _ others x y last end e a b = absurd (cc)

pub same_tails : (s : Settings) (table : States) (t : Tail) (more : List ℕ) (u : Tail) (others : List ℕ)
    → IsTail table t → IsTail table u → (is_open t ≡ true → more ≡ []) → (is_open u ≡ true → others ≡ [])
    → tail_text t more ≡ tail_text u others → IsAlike s t u
same_tails s table t more u others x y last end e =
    let start = one_start table (tail_text t more) (ask_of t more) (ask_of u others) (answer_of t more) (answer_of u others)
    (start_of_tail table t more x last)
    (subst (λ l. IsStart table l (ask_of u others) (answer_of u others)) (sym e) (start_of_tail table u others y end)) in
    alike_by s table t more u others x y last end e start.0 start.1
