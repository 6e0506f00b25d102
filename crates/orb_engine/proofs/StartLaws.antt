-- What the heads of an exchange at the beginning of some bytes are, which is one thing alone.
use Rattle.std.proofs.Common.{◌≡◌, ℕ, true, List, [], ◌∷◌, ◌++◌, Ok, Err, refl, sym, ap, subst, ◌∙◌}
use Rattle.media_state.specs.Table.{States}
use Rattle.http_exchange.specs.Reading.{ReadsRequestHead}
use Rattle.http_exchange.specs.declared.refusals.BadKind.{BadKind}
use Rattle.http_exchange.specs.declared.request.RequestHead.{RequestHead}
use Rattle.exchanges.specs.Heads.{RequestText, ResponseText, Heads, IsRequestIn, AreHeads, id_of}
use Rattle.media_state.specs.Table.{IsRefusedId}
use Rattle.orb_engine.specs.Recording as cut
use Rattle.orb_engine.specs.Recording.{Tail, IsTail, heads_text, tail_text, is_open}
use Rattle.exchanges.proofs.HeadLaws.{Opens, Longs, Stands, view, view-stands, view-long, opens, ask_once, bad_request_once, ask_or_bad, Answer, NoAnswer, AnswerOpens, AnswerLong, AnswerBad, Answered, IsAnswer, one_answer}

-- a request at the beginning of some bytes
pub data Ask : Type 0 where
  AskOpens : Ask
  AskLong : Ask
  AskBad : (head : List ℕ) → BadKind → Ask
  AskFull : RequestText → Ask
  Asked : RequestText → (rest : List ℕ) → Ask

abbrev pub IsAsk : States → List ℕ → Ask → Type 0
IsAsk table l AskOpens = view l ≡ Opens
IsAsk table l AskLong = view l ≡ Longs
IsAsk table l (AskBad head kind) = (rest : List ℕ) × (view l ≡ Stands head rest) × ReadsRequestHead head (Err kind)
IsAsk table l (AskFull r) =
    (rest : List ℕ) × (view l ≡ Stands r.bytes rest) × ReadsRequestHead r.bytes (Ok r.asks) × IsRefusedId table (id_of r.asks)
IsAsk table l (Asked r rest) =
    (view l ≡ Stands r.bytes rest) × ReadsRequestHead r.bytes (Ok r.asks) × (IsRefusedId table (id_of r.asks) → ⊥)

-- the response is looked at only after a good request
abbrev pub OnlyFills : Ask → Answer → Type 0
OnlyFills (Asked r rest) answer = IsAnswer r.asks.is_head rest answer
OnlyFills _ answer = answer ≡ NoAnswer

-- ---- one request

request_by : (r q : RequestText) → r.bytes ≡ q.bytes → r.asks ≡ q.asks → r ≡ q
request_by r q p e =
    same r.bytes q.bytes r.asks q.asks p e
  where
    same : (b c : List ℕ) (a d : RequestHead) → b ≡ c → a ≡ d
        → ◌≡◌ {A = RequestText} (record { bytes = b; asks = a }) (record { bytes = c; asks = d })
    same b c a d p e = rw (p, e) refl

same_asks : (r q : RequestText) → r.bytes ≡ q.bytes → ReadsRequestHead r.bytes (Ok r.asks) → ReadsRequestHead q.bytes (Ok q.asks)
    → r.asks ≡ q.asks
same_asks r q same x y =
    ask_once r.bytes r.asks q.asks x (subst (λ b. ReadsRequestHead b (Ok q.asks)) (sym same) y)

clash_ask : (head : List ℕ) (k : BadKind) (r : RequestText) → head ≡ r.bytes → ReadsRequestHead head (Err k)
    → ReadsRequestHead r.bytes (Ok r.asks) → ⊥
clash_ask head k r same x y = ask_or_bad r.bytes r.asks k y (subst (λ b. ReadsRequestHead b (Err k)) same x)

pub one_ask : (table : States) (l : List ℕ) (a b : Ask) → IsAsk table l a → IsAsk table l b → a ≡ b
one_ask table l AskOpens AskOpens x y = refl
one_ask table l AskOpens _ x y = absurd (cc)
one_ask table l AskLong AskLong x y = refl
one_ask table l AskLong _ x y = absurd (cc)
one_ask table l _ AskOpens x y = absurd (cc)
one_ask table l _ AskLong x y = absurd (cc)
one_ask table l (AskBad head kind) (AskBad text other) x y =
    let same : head ≡ text = cc in
    let kinds : kind ≡ other =
    bad_request_once head kind other x.2 (subst (λ b. ReadsRequestHead b (Err other)) (sym same) y.2) in cc
one_ask table l (AskBad head kind) (AskFull q) x y = absurd (clash_ask head kind q (cc) x.2 y.2)
one_ask table l (AskBad head kind) (Asked q rest) x y = absurd (clash_ask head kind q (cc) x.2 y.1)
one_ask table l (AskFull r) (AskBad head kind) x y = absurd (clash_ask head kind r (cc) y.2 x.2)
one_ask table l (AskFull r) (AskFull q) x y =
    let same : r.bytes ≡ q.bytes = cc in ap AskFull (request_by r q same (same_asks r q same x.2 y.2))
one_ask table l (AskFull r) (Asked q rest) x y =
    let same : r.bytes ≡ q.bytes = cc in
    absurd (y.2 (subst (λ a. IsRefusedId table (id_of a)) (same_asks r q same x.2 y.1) x.3))
one_ask table l (Asked r rest) (AskBad head kind) x y = absurd (clash_ask head kind r (cc) y.2 x.1)
one_ask table l (Asked r rest) (AskFull q) x y =
    let same : q.bytes ≡ r.bytes = cc in
    absurd (x.2 (subst (λ a. IsRefusedId table (id_of a)) (same_asks q r same y.2 x.1) y.3))
one_ask table l (Asked r rest) (Asked q others) x y =
    let same : r.bytes ≡ q.bytes = cc in
    let after : rest ≡ others = cc in
    let request : r ≡ q = request_by r q same (same_asks r q same x.1 y.1) in cc

-- after one request
one_after : (ask : Ask) (a b : Answer) → OnlyFills ask a → OnlyFills ask b → a ≡ b
one_after AskOpens a b x y = x ∙ sym y
one_after AskLong a b x y = x ∙ sym y
one_after (AskBad head kind) a b x y = x ∙ sym y
one_after (AskFull r) a b x y = x ∙ sym y
one_after (Asked r rest) a b x y = one_answer r.asks.is_head rest a b x y

-- ---- both

pub record IsStart (table : States) (l : List ℕ) (ask : Ask) (answer : Answer) : Type 0 where
  pub asks : IsAsk table l ask
  pub answers : OnlyFills ask answer

pub one_start : (table : States) (l : List ℕ) (a b : Ask) (x y : Answer) → IsStart table l a x → IsStart table l b y
    → (a ≡ b) × (x ≡ y)
one_start table l a b x y p q =
    let asks : a ≡ b = one_ask table l a b p.asks q.asks in
    (asks, one_after a x y p.answers (subst (λ k. OnlyFills k y) (sym asks) q.answers))

-- ---- of a tail

abbrev pub ask_of : Tail → (more : List ℕ) → Ask
ask_of (cut.InRequestHead head) more = AskOpens
ask_of (cut.InResponseHead r head) more = Asked r (head ++ more)
ask_of (cut.InBody h sent body) more = Asked h.request (h.response.bytes ++ (sent ++ more))
ask_of (cut.LongRequest head) more = AskLong
ask_of (cut.BadRequest head kind) more = AskBad head kind
ask_of (cut.FullTable r) more = AskFull r
ask_of (cut.LongResponse r head) more = Asked r (head ++ more)
ask_of (cut.BadResponse r head kind) more = Asked r (head ++ more)
ask_of (cut.BadBody h sent body b) more = Asked h.request (h.response.bytes ++ (sent ++ (b ∷ more)))

abbrev pub answer_of : Tail → (more : List ℕ) → Answer
answer_of (cut.InRequestHead head) more = NoAnswer
answer_of (cut.InResponseHead r head) more = AnswerOpens
answer_of (cut.InBody h sent body) more = Answered h.response (sent ++ more)
answer_of (cut.LongRequest head) more = NoAnswer
answer_of (cut.BadRequest head kind) more = NoAnswer
answer_of (cut.FullTable r) more = NoAnswer
answer_of (cut.LongResponse r head) more = AnswerLong
answer_of (cut.BadResponse r head kind) more = AnswerBad head kind
answer_of (cut.BadBody h sent body b) more = Answered h.response (sent ++ (b ∷ more))

asked : (table : States) (r : RequestText) (rest : List ℕ) → IsRequestIn table r → IsAsk table (r.bytes ++ rest) (Asked r rest)
asked table r rest h = (view-stands r.bytes rest h.head.text, h.head.reads, h.room)

pub start_of_heads : (table : States) (h : Heads) (rest : List ℕ) → AreHeads table h
    → IsStart table (heads_text h rest) (Asked h.request (h.response.bytes ++ rest)) (Answered h.response rest)
start_of_heads table h rest are = record {
  asks = asked table h.request (h.response.bytes ++ rest) are.request;
  answers = (view-stands h.response.bytes rest are.response.text, are.response);
}

pub start_of_tail : (table : States) (t : Tail) (more : List ℕ) → IsTail table t
    → (is_open t ≡ true → more ≡ []) → IsStart table (tail_text t more) (ask_of t more) (answer_of t more)
start_of_tail table (cut.InRequestHead head) more h last = record { asks = opens head more (last refl) h; answers = refl }
start_of_tail table (cut.InResponseHead r head) more h last = record {
  asks = asked table r (head ++ more) h.0;
  answers = opens head more (last refl) h.1;
}
start_of_tail table (cut.InBody g sent body) more h last = start_of_heads table g (sent ++ more) h.heads
start_of_tail table (cut.LongRequest head) more h last = record { asks = view-long head more h; answers = refl }
start_of_tail table (cut.BadRequest head kind) more h last = record {
  asks = (more, view-stands head more h.0, h.1);
  answers = refl;
}
start_of_tail table (cut.FullTable r) more h last = record {
  asks = (more, view-stands r.bytes more h.0.text, h.0.reads, h.1);
  answers = refl;
}
start_of_tail table (cut.LongResponse r head) more h last = record {
  asks = asked table r (head ++ more) h.0;
  answers = view-long head more h.1;
}
start_of_tail table (cut.BadResponse r head kind) more h last = record {
  asks = asked table r (head ++ more) h.0;
  answers = (more, view-stands head more h.1, h.2);
}
start_of_tail table (cut.BadBody g sent body b) more h last = start_of_heads table g (sent ++ (b ∷ more)) h.sending.heads

-- ---- two good heads

pub same_heads : (h k : Heads) (a b m n : List ℕ) → Asked h.request a ≡ Asked k.request b
    → Answered h.response m ≡ Answered k.response n → (h ≡ k) × (m ≡ n)
same_heads h k a b m n asks answers =
    let first : h.request ≡ k.request = cc in
    let second : h.response ≡ k.response = cc in
    let rests : m ≡ n = cc in
    (both h.request k.request h.response k.response first second, rests)
  where
    both : (r q : RequestText) (p o : ResponseText) → r ≡ q → p ≡ o
        → ◌≡◌ {A = Heads} (record { request = r; response = p }) (record { request = q; response = o })
    both r q p o e d = rw (e, d) refl
