-- What the bytes at the beginning of a list are: the first bytes of a head, too many for a head, or a head; and
-- that a head is read in one way.
use Rattle.std.proofs.Common.{◌≡◌, ℕ, ◌<◌, ◌≤◌, Bool, true, false, cond, nat_lt, nat_le, List, [], ◌++◌, length, take, drop, Option, Some, None, Result, Ok, Err, inl, inr, refl, sym, ap, subst, ◌∙◌, arith}
use Rattle.std.proofs.lemmas.Bool.Decides.{nat_tests}
use Rattle.std.proofs.lemmas.List.{append-nil, length-append}
use Rattle.std.proofs.Math.Seq.{take-append_seam, drop-append_seam}
use Rattle.httparse.specs.Grammar.{status_code}
use Rattle.httparse.proofs.GrammarLemmas.{response_unique}
use Rattle.response_rules.specs.Heads.{HasEssence}
use Rattle.response_rules.proofs.EssenceLemmas.{one_essence}
use Rattle.http_exchange.specs.Head.{head_length}
use Rattle.http_exchange.specs.Heads.{IsResponse}
use Rattle.http_exchange.specs.Fields.{pairs_of}
use Rattle.http_exchange.specs.Reading.{ReadsRequestHead, ReadsResponseHead}
use Rattle.http_exchange.specs.ResponseFields.{frame_of}
use Rattle.http_exchange.specs.declared.frames.BodyFrame.{BodyFrame}
use Rattle.http_exchange.specs.declared.refusals.BadKind.{BadKind}
use Rattle.http_exchange.specs.declared.request.RequestHead.{RequestHead}
use Rattle.http_exchange.proofs.EndLemmas.{head_length-stays}
use Rattle.http_exchange.proofs.ReadingLemmas.{ends_after, request_once, same_Err, no_Ok, bad_response_once}
use Rattle.http_exchange.specs.HeadTexts.{head_limit, IsHeadText, IsOpenHead, IsLongHead}
use Rattle.exchanges.specs.Heads.{ResponseText, IsResponseHead}

pub data HeadView : Type 0 where
  Opens : HeadView
  Longs : HeadView
  Stands : (text rest : List ℕ) → HeadView

view_by : List ℕ → Option ℕ → HeadView
view_by l None = cond (nat_lt (length l) head_limit) Opens Longs
view_by l (Some n) = cond (nat_le n head_limit) (Stands (take n l) (drop n l)) Longs

-- what the bytes begin with
pub view : List ℕ → HeadView
unfolding view_by
view l = view_by l (head_length l)

pub view-open : (l : List ℕ) → IsOpenHead l → view l ≡ Opens
unfolding view view_by
view-open l h =
    let less : nat_lt (length l) head_limit ≡ true = grind (arith, nat_tests, h.fits) in
    ap (view_by l) h.open_ ∙ ap (λ t. cond t Opens Longs) less

pub view-stands : (text rest : List ℕ) → IsHeadText text → view (text ++ rest) ≡ Stands text rest
unfolding view view_by
view-stands text rest h =
    let fits : nat_le (length text) head_limit ≡ true = grind (arith, nat_tests, h.fits) in
    ap (view_by (text ++ rest)) (head_length-stays text rest (length text) h.ends)
    ∙ rw (fits, take-append_seam text rest, drop-append_seam text rest) refl

long_by : (l : List ℕ) (o : Option ℕ) → head_limit ≤ length l → ((n : ℕ) → o ≡ Some n → head_limit < n) → view_by l o ≡ Longs
unfolding view_by
long_by l None long after =
    let more : nat_lt (length l) head_limit ≡ false = grind (arith, nat_tests, long) in ap (λ t. cond t Opens Longs) more
long_by l (Some n) long after =
    let far : head_limit < n = after n refl in
    let more : nat_le n head_limit ≡ false = grind (arith, nat_tests, far) in
    ap (λ t. cond t (Stands (take n l) (drop n l)) Longs) more

pub view-long : (prefix rest : List ℕ) → IsLongHead prefix → view (prefix ++ rest) ≡ Longs
unfolding view
view-long prefix rest h =
    long_by (prefix ++ rest) (head_length (prefix ++ rest)) (omega (arith, length-append prefix rest, h.full))
    (λ n ends. omega (arith, ends_after prefix rest n h.open_ ends, h.full))

-- ---- readings

same_Ok : (f g : BodyFrame) → ◌≡◌ {A = Result BodyFrame BadKind} (Ok f) (Ok g) → f ≡ g
same_Ok f g e = cc

pub ask_once : (head : List ℕ) (a b : RequestHead) → ReadsRequestHead head (Ok a) → ReadsRequestHead head (Ok b) → a ≡ b
ask_once head a b x y = let e : ◌≡◌ {A = Result RequestHead BadKind} (Ok a) (Ok b) = request_once head (Ok a) (Ok b) x y in cc

pub bad_request_once : (head : List ℕ) (k l : BadKind) → ReadsRequestHead head (Err k) → ReadsRequestHead head (Err l) → k ≡ l
bad_request_once head k l x y = same_Err k l (request_once head (Err k) (Err l) x y)

pub ask_or_bad : (head : List ℕ) (a : RequestHead) (k : BadKind) → ReadsRequestHead head (Ok a) → ReadsRequestHead head (Err k) → ⊥
ask_or_bad head a k x y = let e : ◌≡◌ {A = Result RequestHead BadKind} (Ok a) (Err k) = request_once head (Ok a) (Err k) x y in cc

same_response : (b b' : List ℕ) (s s' : ℕ) (fields fields' : List (List ℕ × List ℕ)) (e e' : Option (List ℕ × List ℕ)) (f f' : BodyFrame)
    → b ≡ b' → s ≡ s' → fields ≡ fields' → e ≡ e' → f ≡ f'
    → ◌≡◌ {A = ResponseText} (record { bytes = b; status = s; fields = fields; essence = e; frame = f })
    (record { bytes = b'; status = s'; fields = fields'; essence = e'; frame = f' })
same_response b b' s s' fields fields' e e' f f' o p q r t = rw (o, p, q, r, t) refl

-- where both are read from the same bytes
pub response_once : (to_head : Bool) (r q : ResponseText) → r.bytes ≡ q.bytes → IsResponseHead to_head r → IsResponseHead to_head q → r ≡ q
response_once to_head r q same x y =
    let reads : IsResponse r.bytes y.tree = subst (λ b. IsResponse b y.tree) (sym same) y.reads in
    let tree : x.tree ≡ y.tree = (response_unique r.bytes x.tree y.tree _ _ x.reads.0 reads.0).0 in
    let status : r.status ≡ q.status = x.status ∙ ap status_code tree ∙ sym y.status in
    let fields : r.fields ≡ q.fields = x.fields ∙ ap (λ h. pairs_of h.fields) tree ∙ sym y.fields in
    let frame : r.frame ≡ q.frame =
    same_Ok r.frame q.frame
    (sym x.frame ∙ ap (λ s. frame_of to_head s r.fields) status ∙ ap (frame_of to_head q.status) fields ∙ y.frame) in
    let essence : r.essence ≡ q.essence =
    one_essence q.fields r.essence q.essence (subst (λ f. HasEssence f r.essence) fields x.essence) y.essence in
    same_response r.bytes q.bytes r.status q.status r.fields q.fields r.essence q.essence r.frame q.frame
    same status fields essence frame

pub response_or_bad : (r : ResponseText) (to_head : Bool) (k : BadKind) → IsResponseHead to_head r → ReadsResponseHead r.bytes to_head (Err k) → ⊥
response_or_bad r to_head k x (inl y) = y.0 x.tree x.reads
response_or_bad r to_head k x (inr y) =
    no_Ok r.frame k
    (sym x.frame
    ∙ ap (λ s. frame_of to_head s r.fields) x.status
    ∙ ap (frame_of to_head (status_code x.tree)) x.fields
    ∙ ap (λ h. frame_of to_head (status_code h) (pairs_of h.fields)) (response_unique r.bytes x.tree y.0 _ _ x.reads.0 y.1.0).0
    ∙ y.2)

-- an open head, of which nothing follows
pub opens : (head more : List ℕ) → more ≡ [] → IsOpenHead head → view (head ++ more) ≡ Opens
opens head more none h = ap view (ap (λ l. head ++ l) none ∙ append-nil head) ∙ view-open head h

-- ---- one response

-- a response at the beginning of some bytes
pub data Answer : Type 0 where
  NoAnswer : Answer
  AnswerOpens : Answer
  AnswerLong : Answer
  AnswerBad : (head : List ℕ) → BadKind → Answer
  Answered : ResponseText → (rest : List ℕ) → Answer

abbrev pub IsAnswer : (to_head : Bool) → List ℕ → Answer → Type 0
IsAnswer to_head l NoAnswer = ⊥
IsAnswer to_head l AnswerOpens = view l ≡ Opens
IsAnswer to_head l AnswerLong = view l ≡ Longs
IsAnswer to_head l (AnswerBad head kind) =
    (rest : List ℕ) × (view l ≡ Stands head rest) × ReadsResponseHead head to_head (Err kind)
IsAnswer to_head l (Answered r rest) = (view l ≡ Stands r.bytes rest) × IsResponseHead to_head r

clash_answer : (head : List ℕ) (k : BadKind) (r : ResponseText) (to_head : Bool) → head ≡ r.bytes
    → ReadsResponseHead head to_head (Err k) → IsResponseHead to_head r → ⊥
clash_answer head k r to_head same x y =
    response_or_bad r to_head k y (subst (λ b. ReadsResponseHead b to_head (Err k)) same x)

pub one_answer : (to_head : Bool) (l : List ℕ) (a b : Answer) → IsAnswer to_head l a → IsAnswer to_head l b → a ≡ b
one_answer to_head l NoAnswer _ x y = absurd x
one_answer to_head l _ NoAnswer x y = absurd y
one_answer to_head l AnswerOpens AnswerOpens x y = refl
one_answer to_head l AnswerOpens _ x y = absurd (cc)
one_answer to_head l AnswerLong AnswerLong x y = refl
one_answer to_head l AnswerLong _ x y = absurd (cc)
one_answer to_head l _ AnswerOpens x y = absurd (cc)
one_answer to_head l _ AnswerLong x y = absurd (cc)
one_answer to_head l (AnswerBad head kind) (AnswerBad text other) x y =
    let same : head ≡ text = cc in
    let kinds : kind ≡ other =
    bad_response_once head to_head kind other x.2 (subst (λ b. ReadsResponseHead b to_head (Err other)) (sym same) y.2) in cc
one_answer to_head l (AnswerBad head kind) (Answered q rest) x y = absurd (clash_answer head kind q to_head (cc) x.2 y.1)
one_answer to_head l (Answered r rest) (AnswerBad head kind) x y = absurd (clash_answer head kind r to_head (cc) y.2 x.1)
one_answer to_head l (Answered r rest) (Answered q others) x y =
    let same : r.bytes ≡ q.bytes = cc in
    let after : rest ≡ others = cc in
    let response : r ≡ q = response_once to_head r q same x.1 y.1 in cc
