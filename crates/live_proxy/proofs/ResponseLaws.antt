-- What is answered of responses of the same bytes, and of longer ones.
use Rattle.std.proofs.Common.{◌≡◌, ℕ, Bool, true, false, cond, ◌&&◌, List, [], ◌∷◌, ◌++◌, inl, inr, refl, sym, ap, subst, ◌∙◌, append_assoc}
use Rattle.std.proofs.lemmas.Bool.{false≢true}
use Rattle.std.proofs.lemmas.List.{append-nil}
use Rattle.orb_io.specs.Told.{IsPrefix}
use Rattle.orb_io.proofs.ToldLemmas.{IsPrefix-all, IsPrefix-none, IsPrefix-trans}
use Rattle.http_exchange.specs.Frames.{IsBodyPrefix, IsWhole}
use Rattle.http_exchange.proofs.UnframerLemmas.{one_prefix}
use Rattle.body_filter.specs.Responses.{Response, output_so_far, whole_output}
use Rattle.body_filter.proofs.LawLemmas.{prefix-grows, prefix-whole_now}
use Rattle.exchanges.specs.Heads.{ResponseText, is_to_end}
use Rattle.exchanges.specs.declared.room.Context.{Context}
use Rattle.exchanges.proofs.HeadLaws.{view-stands, view-long, opens, Answer, AnswerOpens, AnswerLong, AnswerBad, Answered, IsAnswer, one_answer}
use Rattle.exchanges.proofs.BodyLaws.{one_goes_on, longer_prefix, within_stuck, same_whole, whole_not_open, whole_not_stuck, open_not_stuck, same_stuck}
use Rattle.live_proxy.specs.Responses.{Coming, InHead, InBody, Whole, LongHead, BadHead, BadBody, coming_text, IsComing, IsResponse, IsOpenBody, IsWholeBody, IsBadBody, is_open, end_of, response_in, shown, state_after}

-- ---- one response

-- what its head is
abbrev answer_of : Coming → (more : List ℕ) → Answer
answer_of (InHead head) more = AnswerOpens
answer_of (InBody r sent body) more = Answered r (sent ++ more)
answer_of (Whole r sent body) more = Answered r (sent ++ more)
answer_of (LongHead head) more = AnswerLong
answer_of (BadHead head kind) more = AnswerBad head kind
answer_of (BadBody r sent body b) more = Answered r (sent ++ (b ∷ more))

is_answer : (to_head : Bool) (c : Coming) (more : List ℕ) → IsComing to_head c → (is_open c ≡ true → more ≡ [])
    → IsAnswer to_head (coming_text c more) (answer_of c more)
is_answer to_head (InHead head) more h last = opens head more (last refl) h
is_answer to_head (InBody r sent body) more h last = (view-stands r.bytes (sent ++ more) h.head.text, h.head)
is_answer to_head (Whole r sent body) more h last = (view-stands r.bytes (sent ++ more) h.head.text, h.head)
is_answer to_head (LongHead head) more h last = view-long head more h
is_answer to_head (BadHead head kind) more h last = (more, view-stands head more h.0, h.1)
is_answer to_head (BadBody r sent body b) more h last =
    (view-stands r.bytes (sent ++ (b ∷ more)) h.sending.head.text, h.sending.head)

answers : (to_head : Bool) (bytes : List ℕ) (c : Coming) (more : List ℕ) → IsResponse to_head bytes c more
    → IsAnswer to_head bytes (answer_of c more)
answers to_head bytes c more h =
    subst (λ (l : List ℕ). IsAnswer to_head l (answer_of c more)) (sym h.spells) (is_answer to_head c more h.is h.last)

-- the same is answered of both
pub record IsAlike (a b : Coming) : Type 0 where
  pub end : (ended : Bool) → end_of a ended ≡ end_of b ended
  pub shown : (c : Context) (ended : Bool) → shown c ended a ≡ shown c ended b
  pub state : (c : Context) → state_after c a ≡ state_after c b

same_alike : (a b : Coming) → a ≡ b → IsAlike a b
same_alike a b same = record {
  end = λ ended. ap (λ (x : Coming). end_of x ended) same;
  shown = λ c ended. ap (shown c ended) same;
  state = λ c. ap (state_after c) same;
}

-- bytes after which nothing stands
alone : (m more : List ℕ) → more ≡ [] → m ++ more ≡ m
alone m more none = ap (λ l. m ++ l) none ∙ append-nil m

-- the heads of two responses are the same, and so is what stands after them
record SameHead (r q : ResponseText) (m n : List ℕ) : Type 0 where
  head : r ≡ q
  rest : m ≡ n

same_head : (r q : ResponseText) (m n : List ℕ) → Answered r m ≡ Answered q n → SameHead r q m n
same_head r q m n e = record { head = cc; rest = cc }

open_open : (to_head : Bool) (r q : ResponseText) (m g n c more others : List ℕ) → IsOpenBody to_head r m g → IsOpenBody to_head q n c
    → more ≡ [] → others ≡ [] → SameHead r q (m ++ more) (n ++ others) → InBody r m g ≡ InBody q n c
open_open to_head r q m g n c more others x y none nothing e =
    let same : m ≡ n = sym (alone m more none) ∙ e.rest ∙ alone n others nothing in
    let content : g ≡ c =
    one_prefix r.frame m g c x.prefix
    (subst (λ (z : ResponseText). IsBodyPrefix z.frame m c) (sym e.head) (subst (λ (l : List ℕ). IsBodyPrefix q.frame l c) (sym same) y.prefix)) in
    let head : r ≡ q = e.head in
    cc

open_whole : (to_head : Bool) (r q : ResponseText) (m g n c more others : List ℕ) → IsOpenBody to_head r m g → IsWholeBody to_head q n c
    → more ≡ [] → SameHead r q (m ++ more) (n ++ others) → ⊥
open_whole to_head r q m g n c more others x y none e =
    whole_not_open r.frame n others m g (subst (λ (z : ResponseText). IsWhole z.frame n) (sym e.head) y.whole) x.prefix x.unfinished
    (sym e.rest ∙ alone m more none)

open_bad : (to_head : Bool) (r q : ResponseText) (m g n c more others : List ℕ) (b : ℕ) → IsOpenBody to_head r m g
    → IsBadBody to_head q n c b → more ≡ [] → SameHead r q (m ++ more) (n ++ (b ∷ others)) → ⊥
open_bad to_head r q m g n c more others b x y none e =
    open_not_stuck q.frame m n others g b (subst (λ (z : ResponseText). IsBodyPrefix z.frame m g) e.head x.prefix) y.bad
    (sym (alone m more none) ∙ e.rest)

whole_bad : (to_head : Bool) (r q : ResponseText) (m g n c more others : List ℕ) (b : ℕ) → IsWholeBody to_head r m g
    → IsBadBody to_head q n c b → SameHead r q (m ++ more) (n ++ (b ∷ others)) → ⊥
whole_bad to_head r q m g n c more others b x y e =
    whole_not_stuck q.frame m more n others g c b (subst (λ (z : ResponseText). IsWhole z.frame m) e.head x.whole)
    (subst (λ (z : ResponseText). IsBodyPrefix z.frame m g) e.head x.prefix) y.sending.prefix y.sending.unfinished y.bad e.rest

whole_whole : (to_head : Bool) (r q : ResponseText) (m g n c more others : List ℕ) → IsWholeBody to_head r m g
    → IsWholeBody to_head q n c → SameHead r q (m ++ more) (n ++ others) → Whole r m g ≡ Whole q n c
whole_whole to_head r q m g n c more others x y e =
    let w : IsWhole r.frame n = subst (λ (z : ResponseText). IsWhole z.frame n) (sym e.head) y.whole in
    let p : IsBodyPrefix r.frame n c = subst (λ (z : ResponseText). IsBodyPrefix z.frame n c) (sym e.head) y.prefix in
    let same : m ≡ n = same_whole r.frame m more n others g c x.whole w x.prefix p e.rest in
    let content : g ≡ c = one_prefix r.frame m g c x.prefix (subst (λ (l : List ℕ). IsBodyPrefix r.frame l c) (sym same) p) in
    let head : r ≡ q = e.head in
    cc

bad_bad : (to_head : Bool) (r q : ResponseText) (m g n c more others : List ℕ) (b d : ℕ) → IsBadBody to_head r m g b
    → IsBadBody to_head q n c d → SameHead r q (m ++ (b ∷ more)) (n ++ (d ∷ others)) → IsAlike (BadBody r m g b) (BadBody q n c d)
bad_bad to_head r q m g n c more others b d x y e =
    let f = r.frame in
    let both =
    same_stuck f m more n others g c b d x.bad
    (subst (λ (z : ResponseText). (k : List ℕ) → IsBodyPrefix z.frame (n ++ (d ∷ [])) k → ⊥) (sym e.head) y.bad)
    x.sending.prefix (subst (λ (z : ResponseText). IsBodyPrefix z.frame n c) (sym e.head) y.sending.prefix) e.rest in
    record {
      end = λ ended. refl;
      shown = λ k ended.
          ap (λ (z : ResponseText). output_so_far (response_in k z) g) e.head ∙ ap (output_so_far (response_in k q)) both.1;
      state = λ k. refl;
    }

alike : (to_head : Bool) (a b : Coming) (more others : List ℕ) → IsComing to_head a → IsComing to_head b
    → (is_open a ≡ true → more ≡ []) → (is_open b ≡ true → others ≡ []) → coming_text a more ≡ coming_text b others
    → answer_of a more ≡ answer_of b others → IsAlike a b
alike to_head (InHead m) (InHead n) p q x y end last spells e = record {
  end = λ ended. refl;
  shown = λ c ended. refl;
  state = λ c. refl;
}
alike to_head (InHead m) _ p q x y end last spells e = absurd (cc)
alike to_head (LongHead m) (LongHead n) p q x y end last spells e = record {
  end = λ ended. refl;
  shown = λ c ended. refl;
  state = λ c. refl;
}
alike to_head (LongHead m) _ p q x y end last spells e = absurd (cc)
alike to_head (BadHead m k) (BadHead n l) p q x y end last spells e = same_alike (BadHead m k) (BadHead n l) (cc)
alike to_head (BadHead m k) _ p q x y end last spells e = absurd (cc)
alike to_head (InBody r m g) (InBody s n c) p q x y end last spells e =
    same_alike (InBody r m g) (InBody s n c)
    (open_open to_head r s m g n c p q x y (end refl) (last refl) (same_head r s (m ++ p) (n ++ q) e))
alike to_head (InBody r m g) (Whole s n c) p q x y end last spells e =
    absurd (open_whole to_head r s m g n c p q x y (end refl) (same_head r s (m ++ p) (n ++ q) e))
alike to_head (InBody r m g) (BadBody s n c b) p q x y end last spells e =
    absurd (open_bad to_head r s m g n c p q b x y (end refl) (same_head r s (m ++ p) (n ++ (b ∷ q)) e))
alike to_head (InBody r m g) _ p q x y end last spells e = absurd (cc)
alike to_head (Whole r m g) (InBody s n c) p q x y end last spells e =
    absurd (open_whole to_head s r n c m g q p y x (last refl) (same_head s r (n ++ q) (m ++ p) (sym e)))
alike to_head (Whole r m g) (Whole s n c) p q x y end last spells e =
    same_alike (Whole r m g) (Whole s n c) (whole_whole to_head r s m g n c p q x y (same_head r s (m ++ p) (n ++ q) e))
alike to_head (Whole r m g) (BadBody s n c b) p q x y end last spells e =
    absurd (whole_bad to_head r s m g n c p q b x y (same_head r s (m ++ p) (n ++ (b ∷ q)) e))
alike to_head (Whole r m g) _ p q x y end last spells e = absurd (cc)
alike to_head (BadBody r m g b) (InBody s n c) p q x y end last spells e =
    absurd (open_bad to_head s r n c m g q p b y x (last refl) (same_head s r (n ++ q) (m ++ (b ∷ p)) (sym e)))
alike to_head (BadBody r m g b) (Whole s n c) p q x y end last spells e =
    absurd (whole_bad to_head s r n c m g q p b y x (same_head s r (n ++ q) (m ++ (b ∷ p)) (sym e)))
alike to_head (BadBody r m g b) (BadBody s n c d) p q x y end last spells e =
    bad_bad to_head r s m g n c p q b d x y (same_head r s (m ++ (b ∷ p)) (n ++ (d ∷ q)) e)
alike to_head (BadBody r m g b) _ p q x y end last spells e = absurd (cc)

pub one : (to_head : Bool) (bytes : List ℕ) (a b : Coming) (after others : List ℕ) → IsResponse to_head bytes a after
    → IsResponse to_head bytes b others → IsAlike a b
one to_head bytes a b after others x y =
    alike to_head a b after others x.is y.is x.last y.last (sym x.spells ∙ y.spells)
    (one_answer to_head bytes (answer_of a after) (answer_of b others) (answers to_head bytes a after x) (answers to_head bytes b others y))

-- ---- longer bytes

-- what is shown where upstream ends
so_far-ends : (x : Response) (to_end ended : Bool) (m : List ℕ)
    → IsPrefix (output_so_far x m) (cond (ended && to_end) (whole_output x m) (output_so_far x m))
so_far-ends x true true m = prefix-whole_now x m
so_far-ends x false true m = IsPrefix-all (output_so_far x m)
so_far-ends x to_end false m = IsPrefix-all (output_so_far x m)

pub ends : (c : Context) (a : Coming) → IsPrefix (shown c false a) (shown c true a)
ends c (InBody r m g) = so_far-ends (response_in c r) (is_to_end r.frame) true g
ends c (Whole r m g) = IsPrefix-all _
ends c (BadBody r m g b) = IsPrefix-all _
ends c _ = IsPrefix-all []

-- with further bytes, which aren't looked at
shut-stays : (to_head : Bool) (bytes more : List ℕ) (a : Coming) (after : List ℕ) → IsResponse to_head bytes a after
    → is_open a ≡ false → IsResponse to_head (bytes ++ more) a (after ++ more)
shut-stays to_head bytes more a after h shut = record {
  spells = ap (λ (l : List ℕ). l ++ more) h.spells ∙ spelled a after more;
  is = h.is;
  last = λ is. absurd (false≢true (sym shut ∙ is));
}
  where
    spelled : (k : Coming) (p q : List ℕ) → coming_text k p ++ q ≡ coming_text k (p ++ q)
    spelled (InHead head) p q = append_assoc head p q
    spelled (InBody r m g) p q = append_assoc r.bytes (m ++ p) q ∙ ap (λ l. r.bytes ++ l) (append_assoc m p q)
    spelled (Whole r m g) p q = append_assoc r.bytes (m ++ p) q ∙ ap (λ l. r.bytes ++ l) (append_assoc m p q)
    spelled (LongHead head) p q = append_assoc head p q
    spelled (BadHead head kind) p q = append_assoc head p q
    spelled (BadBody r m g b) p q = append_assoc r.bytes (m ++ (b ∷ p)) q ∙ ap (λ l. r.bytes ++ l) (append_assoc m (b ∷ p) q)

shut-grows : (c : Context) (bytes more : List ℕ) (a b : Coming) (after others : List ℕ) → is_open a ≡ false
    → IsResponse c.asks.is_head bytes a after → IsResponse c.asks.is_head (bytes ++ more) b others
    → IsPrefix (shown c false a) (shown c false b)
shut-grows c bytes more a b after others shut x y =
    subst (λ (l : List ℕ). IsPrefix (shown c false a) l)
    ((one c.asks.is_head (bytes ++ more) a b (after ++ more) others (shut-stays c.asks.is_head bytes more a after x shut) y).shown c false)
    (IsPrefix-all (shown c false a))

-- what is shown of a body that goes on
prefix-on : (x : Response) (m g rest : List ℕ) → m ≡ g ++ rest → IsPrefix (output_so_far x g) (output_so_far x m)
prefix-on x m g rest is = subst (λ (l : List ℕ). IsPrefix (output_so_far x g) (output_so_far x l)) (sym is) (prefix-grows x g rest)

-- the body of the longer bytes goes on from that of the others
goes_on : (to_head : Bool) (r : ResponseText) (m g more : List ℕ) (b : Coming) (others : List ℕ) → IsOpenBody to_head r m g
    → IsComing to_head b → (is_open b ≡ true → others ≡ []) → answer_of b others ≡ Answered r (m ++ more)
    → (c : Context) → IsPrefix (output_so_far (response_in c r) g) (shown c false b)
goes_on to_head r m g more (InBody s n k) others x y last e c =
    let same = same_head s r (n ++ others) (m ++ more) e in
    let is : n ≡ m ++ more = sym (alone n others (last refl)) ∙ same.rest in
    let longer =
    longer_prefix r.frame m more g k x.prefix
    (subst (λ (l : List ℕ). IsBodyPrefix r.frame l k) is (subst (λ (z : ResponseText). IsBodyPrefix z.frame n k) same.head y.prefix)) in
    subst (λ (z : ResponseText). IsPrefix (output_so_far (response_in c r) g) (output_so_far (response_in c z) k)) (sym same.head)
    (prefix-on (response_in c r) k g longer.0 longer.1)
goes_on to_head r m g more (Whole s n k) others x y last e c =
    let same = same_head s r (n ++ others) (m ++ more) e in
    let p : IsBodyPrefix r.frame n k = subst (λ (z : ResponseText). IsBodyPrefix z.frame n k) same.head y.prefix in
    let w : IsWhole r.frame n = subst (λ (z : ResponseText). IsWhole z.frame n) same.head y.whole in
    let by : (z : List ℕ) × (n ≡ m ++ z) =
    elim (one_goes_on n others m more same.rest) [
      | inl h ↦ absurd (whole_not_open r.frame n h.more m g w x.prefix x.unfinished (sym h.prefix))
      | inr h ↦ (h.more, h.prefix)
    ] in
    let longer = longer_prefix r.frame m by.0 g k x.prefix (subst (λ (l : List ℕ). IsBodyPrefix r.frame l k) by.1 p) in
    subst (λ (z : ResponseText). IsPrefix (output_so_far (response_in c r) g) (whole_output (response_in c z) k)) (sym same.head)
    (IsPrefix-trans (output_so_far (response_in c r) g) (output_so_far (response_in c r) k) (whole_output (response_in c r) k)
    (prefix-on (response_in c r) k g longer.0 longer.1) (prefix-whole_now (response_in c r) k))
goes_on to_head r m g more (BadBody s n k b) others x y last e c =
    let same = same_head s r (n ++ (b ∷ others)) (m ++ more) e in
    let p : IsBodyPrefix r.frame n k = subst (λ (z : ResponseText). IsBodyPrefix z.frame n k) same.head y.sending.prefix in
    let stuck : (l : List ℕ) → IsBodyPrefix r.frame (n ++ (b ∷ [])) l → ⊥ =
    subst (λ (z : ResponseText). (l : List ℕ) → IsBodyPrefix z.frame (n ++ (b ∷ [])) l → ⊥) same.head y.bad in
    let within = within_stuck r.frame m more n others g b stuck x.prefix (sym same.rest) in
    let longer = longer_prefix r.frame m within.0 g k x.prefix (subst (λ (l : List ℕ). IsBodyPrefix r.frame l k) within.1 p) in
    subst (λ (z : ResponseText). IsPrefix (output_so_far (response_in c r) g) (output_so_far (response_in c z) k)) (sym same.head)
    (prefix-on (response_in c r) k g longer.0 longer.1)
goes_on to_head r m g more _ others x y last e c = absurd (cc)

open-grows : (c : Context) (bytes more : List ℕ) (r : ResponseText) (m g after : List ℕ) (b : Coming) (others : List ℕ)
    → IsResponse c.asks.is_head bytes (InBody r m g) after → IsResponse c.asks.is_head (bytes ++ more) b others
    → IsPrefix (output_so_far (response_in c r) g) (shown c false b)
open-grows c bytes more r m g after b others x y =
    let to_head = c.asks.is_head in
    let spelled : bytes ++ more ≡ r.bytes ++ (m ++ more) =
    ap (λ (l : List ℕ). l ++ more) (x.spells ∙ ap (λ (l : List ℕ). r.bytes ++ l) (alone m after (x.last refl)))
    ∙ append_assoc r.bytes m more in
    let stands : IsAnswer to_head (bytes ++ more) (Answered r (m ++ more)) =
    subst (λ (l : List ℕ). IsAnswer to_head l (Answered r (m ++ more))) (sym spelled)
    (view-stands r.bytes (m ++ more) x.is.head.text, x.is.head) in
    goes_on to_head r m g more b others x.is y.is y.last
    (one_answer to_head (bytes ++ more) (answer_of b others) (Answered r (m ++ more)) (answers to_head (bytes ++ more) b others y) stands) c

grows : (c : Context) (bytes more : List ℕ) (a b : Coming) (after others : List ℕ) → IsResponse c.asks.is_head bytes a after
    → IsResponse c.asks.is_head (bytes ++ more) b others → IsPrefix (shown c false a) (shown c false b)
grows c bytes more (InHead head) b after others x y = IsPrefix-none (shown c false b)
grows c bytes more (LongHead head) b after others x y = IsPrefix-none (shown c false b)
grows c bytes more (BadHead head kind) b after others x y = IsPrefix-none (shown c false b)
grows c bytes more (InBody r m g) b after others x y = open-grows c bytes more r m g after b others x y
grows c bytes more (Whole r m g) b after others x y = shut-grows c bytes more (Whole r m g) b after others refl x y
grows c bytes more (BadBody r m g d) b after others x y = shut-grows c bytes more (BadBody r m g d) b after others refl x y

pub longer : (c : Context) (bytes more : List ℕ) (a b : Coming) (after others : List ℕ) → IsResponse c.asks.is_head bytes a after
    → IsResponse c.asks.is_head (bytes ++ more) b others → (ended : Bool) → IsPrefix (shown c false a) (shown c ended b)
longer c bytes more a b after others x y false = grows c bytes more a b after others x y
longer c bytes more a b after others x y true =
    IsPrefix-trans (shown c false a) (shown c false b) (shown c true b) (grows c bytes more a b after others x y) (ends c b)
