-- A whole exchange that stands first in some bytes: it is the only one, and no tail stands there.
use Rattle.std.proofs.Common.{◌≡◌, ℕ, true, false, List, [], ◌∷◌, ◌++◌, inl, inr, refl, sym, ap, subst, ◌∙◌, append_assoc}
use Rattle.std.proofs.lemmas.Bool.{false≢true}
use Rattle.std.proofs.lemmas.List.{append_cancel_left}
use Rattle.orb_io.specs.Told.{IsPrefix}
use Rattle.orb_io.proofs.ToldLemmas.{IsPrefix-all, IsPrefix-none}
use Rattle.media_state.specs.Table.{States}
use Rattle.response_rules.specs.declared.rules.Rule.{Rule}
use Rattle.response_rules.specs.Tables.{rule_of}
use Rattle.http_exchange.specs.Frames.{IsBodyPrefix, IsWhole}
use Rattle.http_exchange.proofs.UnframerLemmas.{one_prefix}
use Rattle.orb_engine.specs.declared.settings.Settings.{Settings}
use Rattle.exchanges.specs.Heads.{Heads}
use Rattle.orb_engine.specs.Judged.{judged_by, response_of}
use Rattle.orb_engine.specs.Recording as cut
use Rattle.orb_engine.specs.Recording.{Exchange, Tail, IsExchange, IsTail, IsOpenBody, IsBadBody, heads_text, exchange_text, tail_text, is_open}
use Rattle.orb_engine.specs.Outputs.{written_so_far, written_whole, written_tail}
use Rattle.exchanges.proofs.BodyLaws.{one_goes_on, longer_prefix, within_stuck, same_whole}
use Rattle.orb_engine.proofs.OutputLaws.{written_so_far-grows, written_so_far-whole}
use Rattle.exchanges.proofs.HeadLaws.{Answered}
use Rattle.orb_engine.proofs.StartLaws.{Asked, IsStart, one_start, ask_of, answer_of, start_of_heads, start_of_tail, same_heads}
use Rattle.orb_engine.proofs.TailLaws.{whole_not_sending, whole_not_bad, moved, alone, same_tails}

-- ---- an item and a tail

not_item_by : (s : Settings) (table : States) (i : Exchange) (r : List ℕ) (u : Tail) (others : List ℕ)
    → IsExchange s table i → IsTail table u → (is_open u ≡ true → others ≡ [])
    → Asked i.heads.request (i.heads.response.bytes ++ (i.sent ++ r)) ≡ ask_of u others
    → Answered i.heads.response (i.sent ++ r) ≡ answer_of u others → ⊥
not_item_by s table i r (cut.InBody k n c) others x y end a b =
    let h = i.heads in
    let p = same_heads h k _ _ (i.sent ++ r) (n ++ others) a b in
    whole_not_sending table h i.sent r n c x.whole (moved (λ j. IsOpenBody table j n c) h k p.0 y) (p.1 ∙ alone n others (end refl))
not_item_by s table i r (cut.BadBody k n c d) others x y end a b =
    let h = i.heads in
    let p = same_heads h k _ _ (i.sent ++ r) (n ++ (d ∷ others)) a b in
    whole_not_bad table h i.sent r n others i.body c d x.whole x.prefix (moved (λ j. IsBadBody table j n c d) h k p.0 y) p.1
not_item_by s table i r _ others x y end a b = absurd (cc)

start_of_item : (s : Settings) (table : States) (i : Exchange) (r : List ℕ) → IsExchange s table i
    → IsStart table (exchange_text i r) (Asked i.heads.request (i.heads.response.bytes ++ (i.sent ++ r))) (Answered i.heads.response (i.sent ++ r))
start_of_item s table i r x = start_of_heads table i.heads (i.sent ++ r) x.heads

pub item_not_tail : (s : Settings) (table : States) (i : Exchange) (r : List ℕ) (u : Tail) (others : List ℕ)
    → IsExchange s table i → IsTail table u → (is_open u ≡ true → others ≡ []) → exchange_text i r ≡ tail_text u others → ⊥
item_not_tail s table i r u others x y end e =
    let start = one_start table (exchange_text i r) _ (ask_of u others) _ (answer_of u others)
    (start_of_item s table i r x)
    (subst (λ l. IsStart table l (ask_of u others) (answer_of u others)) (sym e) (start_of_tail table u others y end)) in
    not_item_by s table i r u others x y end start.0 start.1

-- ---- two exchanges

item_by : (i j : Exchange) → i.heads ≡ j.heads → i.sent ≡ j.sent → i.body ≡ j.body → i.rule ≡ j.rule → i ≡ j
item_by i j p q r t =
    same i.heads j.heads i.sent j.sent i.body j.body i.rule j.rule p q r t
  where
    same : (h k : Heads) (m n g c : List ℕ) (a b : Rule) → h ≡ k → m ≡ n → g ≡ c → a ≡ b
        → ◌≡◌ {A = Exchange} (record { heads = h; sent = m; body = g; rule = a }) (record { heads = k; sent = n; body = c; rule = b })
    same h k m n g c a b p q r t = rw (p, q, r, t) refl

same_items_by : (s : Settings) (table : States) (i : Exchange) (r : List ℕ) (j : Exchange) (q : List ℕ)
    → IsExchange s table i → IsExchange s table j → i.heads ≡ j.heads → i.sent ++ r ≡ j.sent ++ q → (i ≡ j) × (r ≡ q)
same_items_by s table i r j q x y heads e =
    let f = i.heads.response.frame in
    let prefix : IsBodyPrefix f j.sent j.body = subst (λ k. IsBodyPrefix k.response.frame j.sent j.body) (sym heads) y.prefix in
    let whole : IsWhole f j.sent = subst (λ k. IsWhole k.response.frame j.sent) (sym heads) y.whole in
    let sent : i.sent ≡ j.sent = same_whole f i.sent r j.sent q i.body j.body x.whole whole x.prefix prefix e in
    let body : i.body ≡ j.body = one_prefix f i.sent i.body j.body x.prefix (subst (λ l. IsBodyPrefix f l j.body) (sym sent) prefix) in
    let rules : i.rule ≡ j.rule =
    x.decided ∙ ap (λ k. rule_of (judged_by s table k) i.body) heads
    ∙ ap (rule_of (judged_by s table j.heads)) body ∙ sym y.decided in (
      item_by i j heads sent body rules,
      append_cancel_left i.sent r q (e ∙ ap (λ l. l ++ q) (sym sent)),
    )

pub same_items : (s : Settings) (table : States) (i : Exchange) (r : List ℕ) (j : Exchange) (q : List ℕ)
    → IsExchange s table i → IsExchange s table j → exchange_text i r ≡ exchange_text j q → (i ≡ j) × (r ≡ q)
same_items s table i r j q x y e =
    let a = Asked i.heads.request (i.heads.response.bytes ++ (i.sent ++ r)) in
    let b = Asked j.heads.request (j.heads.response.bytes ++ (j.sent ++ q)) in
    let c = Answered i.heads.response (i.sent ++ r) in
    let d = Answered j.heads.response (j.sent ++ q) in
    let start = one_start table (exchange_text i r) a b c d (start_of_item s table i r x)
    (subst (λ l. IsStart table l b d) (sym e) (start_of_item s table j q y)) in
    let p = same_heads i.heads j.heads _ _ (i.sent ++ r) (j.sent ++ q) start.0 start.1 in
    same_items_by s table i r j q x y p.0 p.1

-- ---- an open tail, and what stands there in longer bytes

pub tail_text-append : (t : Tail) (more x : List ℕ) → tail_text t more ++ x ≡ tail_text t (more ++ x)
tail_text-append (cut.InRequestHead head) more x = append_assoc head more x
tail_text-append (cut.InResponseHead r head) more x = simp append_assoc
tail_text-append (cut.InBody h m g) more x = simp append_assoc
tail_text-append (cut.LongRequest head) more x = append_assoc head more x
tail_text-append (cut.BadRequest head kind) more x = append_assoc head more x
tail_text-append (cut.FullTable r) more x = append_assoc r.bytes more x
tail_text-append (cut.LongResponse r head) more x = simp append_assoc
tail_text-append (cut.BadResponse r head kind) more x = simp append_assoc
tail_text-append (cut.BadBody h m g b) more x = simp append_assoc

-- what goes on from a body that may go on, where its heads are the same
grows_by_item : (s : Settings) (table : States) (h : Heads) (m g x : List ℕ) (i : Exchange) (r : List ℕ) (number : ℕ)
    → IsOpenBody table h m g → IsExchange s table i → h ≡ i.heads → m ++ x ≡ i.sent ++ r
    → IsPrefix (written_so_far s.job (response_of s table h) g) (written_whole s.job number (response_of s table i.heads) i.body)
grows_by_item s table h m g x i r number sending item heads e =
    let f = h.response.frame in
    let prefix : IsBodyPrefix f i.sent i.body = subst (λ k. IsBodyPrefix k.response.frame i.sent i.body) (sym heads) item.prefix in
    let whole : IsWhole f i.sent = subst (λ k. IsWhole k.response.frame i.sent) (sym heads) item.whole in
    elim (one_goes_on m x i.sent r e) [
      | inl k ↦
          let longer = longer_prefix f m k.more g i.body sending.prefix (subst (λ l. IsBodyPrefix f l i.body) k.prefix prefix) in
          let P : List ℕ → Heads → Type 0 =
          λ c j. IsPrefix (written_so_far s.job (response_of s table h) g) (written_whole s.job number (response_of s table j) c) in
          subst (P i.body) heads (subst (λ c. P c h) (sym longer.1) (written_so_far-whole s.job number (response_of s table h) g longer.0))
      | inr k ↦
          absurd (whole_not_sending table h i.sent k.more m g whole sending (sym k.prefix))
    ]

longer_written : (s : Settings) (table : States) (h k : Heads) (m more g c : List ℕ) → h ≡ k
    → IsBodyPrefix h.response.frame m g → IsBodyPrefix h.response.frame (m ++ more) c
    → IsPrefix (written_so_far s.job (response_of s table h) g) (written_so_far s.job (response_of s table k) c)
longer_written s table h k m more g c heads x y =
    let longer = longer_prefix h.response.frame m more g c x y in
    let P : List ℕ → Heads → Type 0 =
    λ d j. IsPrefix (written_so_far s.job (response_of s table h) g) (written_so_far s.job (response_of s table j) d) in
    subst (P c) heads (subst (λ d. P d h) (sym longer.1) (written_so_far-grows s.job (response_of s table h) g longer.0))

grows_by_tail : (s : Settings) (table : States) (h : Heads) (m g x : List ℕ) (u : Tail) (others : List ℕ) (number : ℕ)
    → IsOpenBody table h m g → IsTail table u → (is_open u ≡ true → others ≡ [])
    → Asked h.request (h.response.bytes ++ (m ++ x)) ≡ ask_of u others → Answered h.response (m ++ x) ≡ answer_of u others
    → IsPrefix (written_so_far s.job (response_of s table h) g) (written_tail s table number false u)
grows_by_tail s table h m g x (cut.InBody k n c) others number sending y end a b =
    let f = h.response.frame in
    let p = same_heads h k _ _ (m ++ x) (n ++ others) a b in
    let moves : IsOpenBody table h n c = moved (λ j. IsOpenBody table j n c) h k p.0 y in
    longer_written s table h k m x g c p.0 sending.prefix
    (subst (λ l. IsBodyPrefix f l c) (sym (p.1 ∙ alone n others (end refl))) moves.prefix)
grows_by_tail s table h m g x (cut.BadBody k n c d) others number sending y end a b =
    let f = h.response.frame in
    let p = same_heads h k _ _ (m ++ x) (n ++ (d ∷ others)) a b in
    let moves : IsBadBody table h n c d = moved (λ j. IsBadBody table j n c d) h k p.0 y in
    let w = within_stuck f m x n others g d moves.bad sending.prefix p.1 in
    longer_written s table h k m w.0 g c p.0 sending.prefix (subst (λ l. IsBodyPrefix f l c) w.1 moves.sending.prefix)
grows_by_tail s table h m g x _ others number sending y end a b = absurd (cc)

-- what is written of a tail begins what is written of what stands there in longer bytes

pub tail_grows : (s : Settings) (table : States) (t : Tail) (more x : List ℕ) (u : Tail) (others : List ℕ) (number count : ℕ)
    → IsTail table t → (is_open t ≡ true → more ≡ []) → IsTail table u → (is_open u ≡ true → others ≡ [])
    → tail_text t more ++ x ≡ tail_text u others
    → IsPrefix (written_tail s table number false t) (written_tail s table count false u)
tail_grows s table (cut.InBody h m g) more x u others number count sending last y end e =
    let a = Asked h.request (h.response.bytes ++ (m ++ (more ++ x))) in
    let c = Answered h.response (m ++ (more ++ x)) in
    let is : heads_text h (m ++ (more ++ x)) ≡ tail_text u others = sym (tail_text-append (cut.InBody h m g) more x) ∙ e in
    let start = one_start table (heads_text h (m ++ (more ++ x))) a (ask_of u others) c (answer_of u others)
    (start_of_heads table h (m ++ (more ++ x)) sending.heads)
    (subst (λ l. IsStart table l (ask_of u others) (answer_of u others)) (sym is) (start_of_tail table u others y end)) in
    grows_by_tail s table h m g (more ++ x) u others count sending y end start.0 start.1
tail_grows s table (cut.BadBody h m g d) more x u others number count bad last y end e =
    let shut : is_open (cut.BadBody h m g d) ≡ true → more ++ x ≡ [] = λ o. absurd (false≢true o) in
    let alike = same_tails s table (cut.BadBody h m g d) (more ++ x) u others bad y shut end
    (sym (tail_text-append (cut.BadBody h m g d) more x) ∙ e) in
    subst (λ l. IsPrefix (written_so_far s.job (response_of s table h) g) l) (alike.written table count false)
    (IsPrefix-all (written_so_far s.job (response_of s table h) g))
tail_grows s table (cut.InRequestHead head) more x u others number count t last y end e = IsPrefix-none _
tail_grows s table (cut.InResponseHead r head) more x u others number count t last y end e = IsPrefix-none _
tail_grows s table (cut.LongRequest head) more x u others number count t last y end e = IsPrefix-none _
tail_grows s table (cut.BadRequest head kind) more x u others number count t last y end e = IsPrefix-none _
tail_grows s table (cut.FullTable r) more x u others number count t last y end e = IsPrefix-none _
tail_grows s table (cut.LongResponse r head) more x u others number count t last y end e = IsPrefix-none _
tail_grows s table (cut.BadResponse r head kind) more x u others number count t last y end e = IsPrefix-none _

pub item_grows : (s : Settings) (table : States) (t : Tail) (more x : List ℕ) (i : Exchange) (r : List ℕ) (number count : ℕ)
    → IsTail table t → (is_open t ≡ true → more ≡ []) → IsExchange s table i → tail_text t more ++ x ≡ exchange_text i r
    → IsPrefix (written_tail s table number false t) (written_whole s.job count (response_of s table i.heads) i.body)
item_grows s table (cut.InBody h m g) more x i r number count sending last y e =
    let a = Asked h.request (h.response.bytes ++ (m ++ (more ++ x))) in
    let c = Answered h.response (m ++ (more ++ x)) in
    let b = Asked i.heads.request (i.heads.response.bytes ++ (i.sent ++ r)) in
    let d = Answered i.heads.response (i.sent ++ r) in
    let is : heads_text h (m ++ (more ++ x)) ≡ exchange_text i r = sym (tail_text-append (cut.InBody h m g) more x) ∙ e in
    let start = one_start table (heads_text h (m ++ (more ++ x))) a b c d
    (start_of_heads table h (m ++ (more ++ x)) sending.heads)
    (subst (λ l. IsStart table l b d) (sym is) (start_of_item s table i r y)) in
    let p = same_heads h i.heads _ _ (m ++ (more ++ x)) (i.sent ++ r) start.0 start.1 in
    grows_by_item s table h m g (more ++ x) i r count sending y p.0 p.1
item_grows s table (cut.BadBody h m g d) more x i r number count bad last y e =
    let shut : is_open (cut.BadBody h m g d) ≡ true → more ++ x ≡ [] = λ o. absurd (false≢true o) in
    absurd (item_not_tail s table i r (cut.BadBody h m g d) (more ++ x) y bad shut
    (sym e ∙ tail_text-append (cut.BadBody h m g d) more x))
item_grows s table (cut.InRequestHead head) more x i r number count t last y e = IsPrefix-none _
item_grows s table (cut.InResponseHead q head) more x i r number count t last y e = IsPrefix-none _
item_grows s table (cut.LongRequest head) more x i r number count t last y e = IsPrefix-none _
item_grows s table (cut.BadRequest head kind) more x i r number count t last y e = IsPrefix-none _
item_grows s table (cut.FullTable q) more x i r number count t last y e = IsPrefix-none _
item_grows s table (cut.LongResponse q head) more x i r number count t last y e = IsPrefix-none _
item_grows s table (cut.BadResponse q head kind) more x i r number count t last y e = IsPrefix-none _
