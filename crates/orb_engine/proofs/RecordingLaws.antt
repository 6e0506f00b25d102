-- Two cuttings of the same bytes, or of bytes and of longer ones.
use Rattle.std.proofs.Common.{◌≡◌, ℕ, ◌+◌, true, false, List, [], ◌∷◌, ◌++◌, refl, sym, ap, subst, ◌∙◌, append_assoc}
use Rattle.orb_io.specs.Told.{IsPrefix}
use Rattle.orb_io.proofs.ToldLemmas.{IsPrefix-append, IsPrefix-after, IsPrefix-trans}
use Rattle.media_state.specs.Table.{States}
use Rattle.orb_engine.specs.declared.settings.Settings.{Settings}
use Rattle.orb_engine.specs.Judged.{response_of}
use Rattle.orb_engine.specs.Recording.{Exchange, Tail, AreExchanges, IsTail, exchange_text, exchanges_text, tail_text, table_after, table_after_all, is_open}
use Rattle.orb_engine.specs.Outputs.{written_whole, written_exchanges, written_tail}
use Rattle.orb_engine.proofs.TailLaws.{IsAlike, same_tails}
use Rattle.orb_engine.proofs.ExchangeLaws.{item_not_tail, same_items, tail_grows, item_grows}

-- the bytes are these whole exchanges and this tail, after exchanges that leave these media states
pub record IsCut (s : Settings) (table : States) (bytes : List ℕ) (exchanges : List Exchange) (tail : Tail) (more : List ℕ) : Type 0 where
  pub spells : bytes ≡ exchanges_text exchanges (tail_text tail more)
  pub whole : AreExchanges s table exchanges
  pub stands : IsTail (table_after_all table exchanges) tail
  pub last : is_open tail ≡ true → more ≡ []

-- ---- the same bytes

pub one_cut : (s : Settings) (table : States) (l : List ℕ) (exchanges : List Exchange) (t : Tail) (more : List ℕ) (jtems : List Exchange) (u : Tail) (others : List ℕ)
    → IsCut s table l exchanges t more → IsCut s table l jtems u others → (exchanges ≡ jtems) × IsAlike s t u
one_cut s table l [] t more [] u others x y =
    (refl, same_tails s table t more u others x.stands y.stands x.last y.last (sym x.spells ∙ y.spells))
one_cut s table l [] t more (j ∷ jtems) u others x y =
    absurd (item_not_tail s table j (exchanges_text jtems (tail_text u others)) t more y.whole.0 x.stands x.last (sym y.spells ∙ x.spells))
one_cut s table l (i ∷ exchanges) t more [] u others x y =
    absurd (item_not_tail s table i (exchanges_text exchanges (tail_text t more)) u others x.whole.0 y.stands y.last (sym x.spells ∙ y.spells))
one_cut s table l (i ∷ exchanges) t more (j ∷ jtems) u others x y =
    let r = exchanges_text exchanges (tail_text t more) in
    let q = exchanges_text jtems (tail_text u others) in
    let same = same_items s table i r j q x.whole.0 y.whole.0 (sym x.spells ∙ y.spells) in
    let first : IsCut s (table_after table i) r exchanges t more = record {
      spells = refl;
      whole = x.whole.1;
      stands = x.stands;
      last = x.last;
    } in
    let second : IsCut s (table_after table i) r jtems u others = record {
      spells = same.1;
      whole = subst (λ k. AreExchanges s (table_after table k) jtems) (sym same.0) y.whole.1;
      stands = subst (λ k. IsTail (table_after_all (table_after table k) jtems) u) (sym same.0) y.stands;
      last = y.last;
    } in
    let rest = one_cut s (table_after table i) r exchanges t more jtems u others first second in
    (ap (λ k. k ∷ exchanges) same.0 ∙ ap (λ k. j ∷ k) rest.0, rest.1)

-- ---- longer bytes

prefix-more : (a b c : List ℕ) → IsPrefix a b → IsPrefix a (b ++ c)
prefix-more a b c p = IsPrefix-trans a b (b ++ c) p (IsPrefix-append b c)

pub exchange_text-append : (i : Exchange) (r x : List ℕ) → exchange_text i r ++ x ≡ exchange_text i (r ++ x)
exchange_text-append i r x = simp append_assoc

-- the later cutting goes on from the earlier
pub record Grows (s : Settings) (table : States) (exchanges : List Exchange) (t : Tail) (jtems : List Exchange) (u : Tail) : Type 0 where
  pub others : List Exchange
  pub goes_on : jtems ≡ exchanges ++ others
  pub grows : (before number count : ℕ) → IsPrefix
      (written_exchanges s table before exchanges ++ written_tail s (table_after_all table exchanges) number false t)
      (written_exchanges s table before jtems ++ written_tail s (table_after_all table jtems) count false u)

grows_after : (s : Settings) (table : States) (i : Exchange) (exchanges : List Exchange) (t : Tail) (jtems : List Exchange) (u : Tail)
    → Grows s (table_after table i) exchanges t jtems u → Grows s table (i ∷ exchanges) t (i ∷ jtems) u
grows_after s table i exchanges t jtems u g = record {
  others = g.others;
  goes_on = ap (λ k. i ∷ k) g.goes_on;
  grows = λ before number count.
      let w = written_whole s.job (before + 1) (response_of s table i.heads) i.body in
      let after = table_after table i in
      let p : IsPrefix
      (w ++ (written_exchanges s after (before + 1) exchanges ++ written_tail s (table_after_all after exchanges) number false t))
      (w ++ (written_exchanges s after (before + 1) jtems ++ written_tail s (table_after_all after jtems) count false u)) =
      IsPrefix-after w _ _ (g.grows (before + 1) number count) in
      (p.0, append_assoc w _ _ ∙ p.1 ∙ ap (λ l. l ++ p.0) (sym (append_assoc w _ _)));
}

pub grow_cut : (s : Settings) (table : States) (l x : List ℕ) (exchanges : List Exchange) (t : Tail) (more : List ℕ) (jtems : List Exchange) (u : Tail) (others : List ℕ)
    → IsCut s table l exchanges t more → IsCut s table (l ++ x) jtems u others → Grows s table exchanges t jtems u
grow_cut s table l x [] t more [] u others a b = record {
  others = [];
  goes_on = refl;
  grows = λ before number count.
      tail_grows s table t more x u others number count a.stands a.last b.stands b.last (ap (λ k. k ++ x) (sym a.spells) ∙ b.spells);
}
grow_cut s table l x [] t more (j ∷ jtems) u others a b = record {
  others = j ∷ jtems;
  goes_on = refl;
  grows = λ before number count.
      let w = item_grows s table t more x j (exchanges_text jtems (tail_text u others)) number (before + 1) a.stands a.last b.whole.0
      (ap (λ k. k ++ x) (sym a.spells) ∙ b.spells) in
      prefix-more _ _ _ (prefix-more _ _ _ w);
}
grow_cut s table l x (i ∷ exchanges) t more [] u others a b =
    let r = exchanges_text exchanges (tail_text t more) in
    absurd (item_not_tail s table i (r ++ x) u others a.whole.0 b.stands b.last
    (sym (exchange_text-append i r x) ∙ ap (λ k. k ++ x) (sym a.spells) ∙ b.spells))
grow_cut s table l x (i ∷ exchanges) t more (j ∷ jtems) u others a b =
    let r = exchanges_text exchanges (tail_text t more) in
    let q = exchanges_text jtems (tail_text u others) in
    let same = same_items s table i (r ++ x) j q a.whole.0 b.whole.0
    (sym (exchange_text-append i r x) ∙ ap (λ k. k ++ x) (sym a.spells) ∙ b.spells) in
    let first : IsCut s (table_after table i) r exchanges t more = record {
      spells = refl;
      whole = a.whole.1;
      stands = a.stands;
      last = a.last;
    } in
    let second : IsCut s (table_after table i) (r ++ x) jtems u others = record {
      spells = same.1;
      whole = subst (λ k. AreExchanges s (table_after table k) jtems) (sym same.0) b.whole.1;
      stands = subst (λ k. IsTail (table_after_all (table_after table k) jtems) u) (sym same.0) b.stands;
      last = b.last;
    } in
    subst (λ k. Grows s table (i ∷ exchanges) t (k ∷ jtems) u) same.0
    (grows_after s table i exchanges t jtems u (grow_cut s (table_after table i) r x exchanges t more jtems u others first second))
