-- The answers of a run exclude one another: bytes show one thing at most.
use Rattle.std.proofs.Common.{◌≡◌, ℕ, ◌-◌, ◌≤◌, Bool, true, false, List, [], ◌∷◌, ◌++◌, ◌⊎◌, length, take, Some, Ok, Err, inl, inr, refl, sym, ap, subst, ◌∙◌, arith, append_assoc, length-append}
use Rattle.orb_bytes.specs.Ascii.{line_feed}
use Rattle.orb_io.specs.Told.{IsPrefix}
use Rattle.orb_io.specs.declared.pulling.TheConstants.{MOST_OF_A_RUN}
use Rattle.http_exchange.specs.Head.{head_length}
use Rattle.http_exchange.specs.HeadTexts.{head_limit, IsHeadText, IsOpenHead}
use Rattle.http_exchange.specs.Reading.{ReadsResponseHead}
use Rattle.http_exchange.specs.declared.refusals.BadKind.{BadKind}
use Rattle.http_exchange.proofs.EndLemmas.{head_length-stays}
use Rattle.http_exchange.proofs.HeadTextLemmas.{one_head, head_not_open}
use Rattle.http_exchange.proofs.ReadingLemmas.{ends_after, bad_response_once, response_or_refusal, fields_once}
use Rattle.computed_type.specs.declared.outcome.TypeOutcome.{TypeOutcome}
use Rattle.computed_type.specs.declared.outcome.TypeOutcome.TheVariants as outcome
use Rattle.computed_type.specs.Computed.{HasType}
use Rattle.signatures.specs.Window.{window_of}
use Rattle.computed_type.specs.Inputs.{IsTooLong, IsRefused, IsBegun, IsOpen}
use Rattle.computed_type.specs.Answers.{is_fault, HasLine, TypeAnswers}
use Rattle.computed_type.proofs.ComputedLemmas.{one_type}
use Rattle.computed_type.proofs.RunLemmas.{take_after}

-- ---- what bytes begin with

long_or_head : (m head rest : List ℕ) → IsTooLong m → m ≡ head ++ rest → IsHeadText head → ⊥
long_or_head m head rest l cut text =
    let ends : head_length (l.prefix ++ l.rest) ≡ Some (length head) =
    ap head_length (sym l.cut ∙ cut) ∙ head_length-stays head rest (length head) text.ends in
    omega (arith, ends_after l.prefix l.rest (length head) l.long.open_ ends, l.long.full, text.fits)

long_or_open : (m : List ℕ) → IsTooLong m → IsOpenHead m → ⊥
long_or_open m l h = omega (arith, ap length l.cut, length-append l.prefix l.rest, l.long.full, h.fits)

refused_or_open : (m : List ℕ) (kind : BadKind) → IsRefused m kind → IsOpenHead m → ⊥
refused_or_open m kind r h = head_not_open r.head r.rest m r.text.ends h.open_ (sym r.cut)

begun_or_open : (m : List ℕ) (fields : List (List ℕ × List ℕ)) (body : List ℕ) → IsBegun m fields body → IsOpenHead m → ⊥
begun_or_open m fields body b h = head_not_open b.head body m b.text.ends h.open_ (sym b.cut)

pub refused_or_begun : (m : List ℕ) (kind : BadKind) (fields : List (List ℕ × List ℕ)) (body : List ℕ) → IsRefused m kind
    → IsBegun m fields body → ⊥
refused_or_begun m kind fields body r b =
    let same : r.head ≡ b.head = (one_head r.head r.rest b.head body r.text.ends b.text.ends (sym r.cut ∙ b.cut)).0 in
    response_or_refusal b.head false b.stated.read kind b.stated.is
    (subst (λ (l : List ℕ). ReadsResponseHead l false (Err kind)) same r.refused)

one_refusal : (m : List ℕ) (kind other : BadKind) → IsRefused m kind → IsRefused m other → kind ≡ other
one_refusal m kind other r q =
    let same : r.head ≡ q.head = (one_head r.head r.rest q.head q.rest r.text.ends q.text.ends (sym r.cut ∙ q.cut)).0 in
    bad_response_once q.head false kind other (subst (λ (l : List ℕ). ReadsResponseHead l false (Err kind)) same r.refused) q.refused

pub long_or_begun : (m : List ℕ) (fields : List (List ℕ × List ℕ)) (body : List ℕ) → IsTooLong m → IsBegun m fields body → ⊥
long_or_begun m fields body l b = long_or_head m b.head body l b.cut b.text

pub open_or_line : (m : List ℕ) (P : List ℕ → Type 0) → IsOpenHead m → HasLine m P → ⊥
open_or_line m P h line = begun_or_open m line.fields line.body line.begun h

-- what is open is neither refused nor too long
refused_not_open : (m : List ℕ) (kind : BadKind) → IsRefused m kind → IsOpen m → ⊥
refused_not_open m kind r (inl h) = refused_or_open m kind r h
refused_not_open m kind r (inr (fields, body, b)) = refused_or_begun m kind fields body r b

long_not_open : (m : List ℕ) → IsTooLong m → IsOpen m → ⊥
long_not_open m l (inl h) = long_or_open m l h
long_not_open m l (inr (fields, body, b)) = long_or_begun m fields body l b

-- ---- a line

pub one_line : (m : List ℕ) (P Q : List ℕ → Type 0) (a : HasLine m P) (b : HasLine m Q)
    → a.essence ++ (line_feed ∷ []) ≡ b.essence ++ (line_feed ∷ [])
one_line m P Q a b =
    let x = a.begun in
    let y = b.begun in
    let cut = one_head x.head a.body y.head b.body x.text.ends y.text.ends (sym x.cut ∙ y.cut) in
    let reads : ReadsResponseHead y.head false (Ok x.stated.read) =
    subst (λ (l : List ℕ). ReadsResponseHead l false (Ok x.stated.read)) cut.0 x.stated.is in
    let fields : a.fields ≡ b.fields = x.stated.are ∙ fields_once y.head false x.stated.read y.stated.read reads y.stated.is ∙ sym y.stated.are in
    let is : HasType b.fields (window_of b.body) a.essence =
    subst (λ (l : List ℕ). HasType b.fields (window_of l) a.essence) cut.1
    (subst (λ (f : List (List ℕ × List ℕ)). HasType f (window_of a.body) a.essence) fields a.is) in
    ap (λ e. e ++ (line_feed ∷ [])) (one_type b.fields (window_of b.body) a.essence b.essence is b.is)

-- ---- the first bytes of those that were read, and bytes after them

module _ (n : ℕ) (m : List ℕ) (many : 65536 ≤ n) where
  refused_first : (kind : BadKind) → IsRefused m kind → IsRefused (take n m) kind
  unfolding head_limit
  refused_first kind r = record {
    head = r.head;
    rest = take (n - length r.head) r.rest;
    cut = ap (take n) r.cut ∙ take_after n r.head r.rest (omega (arith, many, r.text.fits));
    text = r.text;
    refused = r.refused;
  }

  long_first : IsTooLong m → IsTooLong (take n m)
  unfolding head_limit
  long_first l = record {
    prefix = l.prefix;
    rest = take (n - length l.prefix) l.rest;
    cut = ap (take n) l.cut ∙ take_after n l.prefix l.rest (omega (arith, many, l.long.full));
    long = l.long;
  }

pub refused_longer : (m more : List ℕ) (kind : BadKind) → IsRefused m kind → IsRefused (m ++ more) kind
refused_longer m more kind r = record {
  head = r.head;
  rest = r.rest ++ more;
  cut = ap (λ l. l ++ more) r.cut ∙ append_assoc r.head r.rest more;
  text = r.text;
  refused = r.refused;
}

pub long_longer : (m more : List ℕ) → IsTooLong m → IsTooLong (m ++ more)
long_longer m more l = record {
  prefix = l.prefix;
  rest = l.rest ++ more;
  cut = ap (λ t. t ++ more) l.cut ∙ append_assoc l.prefix l.rest more;
  long = l.long;
}

-- ---- answers

many_are : 65536 ≤ MOST_OF_A_RUN
many_are = omega arith

no_end : (ended : Bool) → ended ≡ true → ended ≡ false → ⊥
no_end ended is other = let lie : true ≡ false = sym is ∙ other in cc

module _ (read wrote wrote' : List ℕ) (ended : Bool) where
  done_bad : (kind : BadKind) → TypeAnswers outcome.Done read ended wrote → TypeAnswers (outcome.Bad kind) read ended wrote' → ⊥
  done_bad kind x y = refused_or_begun read kind x.1.fields x.1.body y.0 x.1.begun

  done_cut : TypeAnswers outcome.Done read ended wrote → TypeAnswers outcome.Cut read ended wrote' → ⊥
  done_cut x y = open_or_line read (λ line. wrote ≡ line) y.1 x.1

  done_long : TypeAnswers outcome.Done read ended wrote → TypeAnswers outcome.HeadLimit read ended wrote' → ⊥
  done_long x y = long_or_begun read x.1.fields x.1.body y.0 x.1.begun

  done_endless : TypeAnswers outcome.Done read ended wrote → TypeAnswers outcome.Endless read ended wrote' → ⊥
  done_endless x y = no_end ended x.0 y.1

  bad_cut : (kind : BadKind) → TypeAnswers (outcome.Bad kind) read ended wrote → TypeAnswers outcome.Cut read ended wrote' → ⊥
  bad_cut kind x y = refused_or_open read kind x.0 y.1

  bad_long : (kind : BadKind) → TypeAnswers (outcome.Bad kind) read ended wrote → TypeAnswers outcome.HeadLimit read ended wrote' → ⊥
  bad_long kind x y = long_or_head read x.0.head x.0.rest y.0 x.0.cut x.0.text

  bad_endless : (kind : BadKind) → TypeAnswers (outcome.Bad kind) read ended wrote → TypeAnswers outcome.Endless read ended wrote' → ⊥
  bad_endless kind x y = refused_not_open (take MOST_OF_A_RUN read) kind (refused_first MOST_OF_A_RUN read many_are kind x.0) y.2

  cut_long : TypeAnswers outcome.Cut read ended wrote → TypeAnswers outcome.HeadLimit read ended wrote' → ⊥
  cut_long x y = long_or_open read y.0 x.1

  cut_endless : TypeAnswers outcome.Cut read ended wrote → TypeAnswers outcome.Endless read ended wrote' → ⊥
  cut_endless x y = no_end ended x.0 y.1

  long_endless : TypeAnswers outcome.HeadLimit read ended wrote → TypeAnswers outcome.Endless read ended wrote' → ⊥
  long_endless x y = long_not_open (take MOST_OF_A_RUN read) (long_first MOST_OF_A_RUN read many_are x.0) y.2

pub settled : (read wrote wrote' : List ℕ) (ended : Bool) (a b : TypeOutcome) → is_fault a ≡ false → is_fault b ≡ false
    → TypeAnswers a read ended wrote → TypeAnswers b read ended wrote' → (a ≡ b) × (wrote ≡ wrote')
settled r w v e outcome.Done outcome.Done f g x y =
    (refl, x.1.holds ∙ one_line r (λ line. w ≡ line) (λ line. v ≡ line) x.1 y.1 ∙ sym y.1.holds)
settled r w v e outcome.Done (outcome.Bad kind) f g x y = absurd (done_bad r w v e kind x y)
settled r w v e outcome.Done outcome.Cut f g x y = absurd (done_cut r w v e x y)
settled r w v e outcome.Done outcome.HeadLimit f g x y = absurd (done_long r w v e x y)
settled r w v e outcome.Done outcome.Endless f g x y = absurd (done_endless r w v e x y)
settled r w v e (outcome.Bad kind) outcome.Done f g x y = absurd (done_bad r v w e kind y x)
settled r w v e (outcome.Bad kind) (outcome.Bad other) f g x y = (ap outcome.Bad (one_refusal r kind other x.0 y.0), x.1 ∙ sym y.1)
settled r w v e (outcome.Bad kind) outcome.Cut f g x y = absurd (bad_cut r w v e kind x y)
settled r w v e (outcome.Bad kind) outcome.HeadLimit f g x y = absurd (bad_long r w v e kind x y)
settled r w v e (outcome.Bad kind) outcome.Endless f g x y = absurd (bad_endless r w v e kind x y)
settled r w v e outcome.Cut outcome.Done f g x y = absurd (done_cut r v w e y x)
settled r w v e outcome.Cut (outcome.Bad kind) f g x y = absurd (bad_cut r v w e kind y x)
settled r w v e outcome.Cut outcome.Cut f g x y = (refl, x.2 ∙ sym y.2)
settled r w v e outcome.Cut outcome.HeadLimit f g x y = absurd (cut_long r w v e x y)
settled r w v e outcome.Cut outcome.Endless f g x y = absurd (cut_endless r w v e x y)
settled r w v e outcome.HeadLimit outcome.Done f g x y = absurd (done_long r v w e y x)
settled r w v e outcome.HeadLimit (outcome.Bad kind) f g x y = absurd (bad_long r v w e kind y x)
settled r w v e outcome.HeadLimit outcome.Cut f g x y = absurd (cut_long r v w e y x)
settled r w v e outcome.HeadLimit outcome.HeadLimit f g x y = (refl, x.1 ∙ sym y.1)
settled r w v e outcome.HeadLimit outcome.Endless f g x y = absurd (long_endless r w v e x y)
settled r w v e outcome.Endless outcome.Done f g x y = absurd (done_endless r v w e y x)
settled r w v e outcome.Endless (outcome.Bad kind) f g x y = absurd (bad_endless r v w e kind y x)
settled r w v e outcome.Endless outcome.Cut f g x y = absurd (cut_endless r v w e y x)
settled r w v e outcome.Endless outcome.HeadLimit f g x y = absurd (long_endless r v w e y x)
settled r w v e outcome.Endless outcome.Endless f g x y = (refl, x.3 ∙ sym y.3)
settled r w v e outcome.ReadFault b f g x y = absurd (cc f)
settled r w v e outcome.WriteFault b f g x y = absurd (cc f)
settled r w v e a outcome.ReadFault f g x y = absurd (cc g)
settled r w v e a outcome.WriteFault f g x y = absurd (cc g)

-- a fault of the source
pub read_fault : (read wrote wrote' : List ℕ) (ended : Bool) (b : TypeOutcome) → length read ≤ MOST_OF_A_RUN
    → TypeAnswers outcome.ReadFault read ended wrote → TypeAnswers b read ended wrote' → b ≡ outcome.ReadFault
read_fault r w v e outcome.Done few x y = absurd (no_end e y.0 x.0)
read_fault r w v e (outcome.Bad kind) few x y = absurd (refused_not_open r kind y.0 x.1)
read_fault r w v e outcome.Cut few x y = absurd (no_end e y.0 x.0)
read_fault r w v e outcome.HeadLimit few x y = absurd (long_not_open r y.0 x.1)
read_fault r w v e outcome.Endless few x y = absurd (omega (arith, few, y.0))
read_fault r w v e outcome.ReadFault few x y = refl
read_fault r w v e outcome.WriteFault few x y = absurd (no_end e y.0 x.0)

-- and one of the sink
pub write_fault : (read wrote wrote' : List ℕ) (ended : Bool) (b : TypeOutcome) → TypeAnswers outcome.WriteFault read ended wrote
    → TypeAnswers b read ended wrote' → (b ≡ outcome.WriteFault) ⊎ (b ≡ outcome.Done)
write_fault r w v e outcome.Done x y = inr refl
write_fault r w v e (outcome.Bad kind) x y = absurd (refused_or_begun r kind x.1.fields x.1.body y.0 x.1.begun)
write_fault r w v e outcome.Cut x y = absurd (open_or_line r (λ line. IsPrefix w line) y.1 x.1)
write_fault r w v e outcome.HeadLimit x y = absurd (long_or_begun r x.1.fields x.1.body y.0 x.1.begun)
write_fault r w v e outcome.Endless x y = absurd (no_end e x.0 y.1)
write_fault r w v e outcome.ReadFault x y = absurd (no_end e x.0 y.0)
write_fault r w v e outcome.WriteFault x y = inl refl
