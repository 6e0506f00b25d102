-- An input, pull by pull.
use Rattle.std.proofs.Common.{◌≡◌, ℕ, zero, suc, ◌+◌, ◌-◌, ◌≤◌, ◌<◌, List, [], ◌∷◌, ◌++◌, length, take, drop, Option, Ok, Err, refl, sym, ap, subst, ◌∙◌, arith, append_assoc, length-append}
use Rattle.std.proofs.lemmas.List.{append-nil, take-append-drop}
use Rattle.orb_io.specs.Told.{Loses, IsAtEnd}
use Rattle.orb_io.proofs.ToldLemmas.{Loses-twice}
use Rattle.http_exchange.specs.Head.{head_length}
use Rattle.http_exchange.specs.HeadTexts.{head_limit, IsHeadText, IsOpenHead}
use Rattle.http_exchange.specs.Gathering.{TakesHead}
use Rattle.http_exchange.specs.declared.gathering.HeadTaken.TheVariants as given
use Rattle.computed_type.specs.declared.outcome.TypeOutcome.TheVariants as outcome
use Rattle.signatures.specs.Window.{window_size, window_of}
use Rattle.computed_type.specs.Reading.{Reads, HeadAnswers}

-- ---- windows

take_grows : (n : ℕ) (a b : List ℕ) → take n (a ++ b) ≡ take n a ++ take (n - length (take n a)) b
take_grows zero a b = refl
take_grows (suc n) [] b =
    let e : suc n ≡ suc n - 0 = omega arith in
    ap (λ k. take k b) e
take_grows (suc n) (x ∷ a) b =
    let e : suc n - suc (length (take n a)) ≡ n - length (take n a) = omega arith in
    ap (λ t. x ∷ t) (take_grows n a b) ∙ ap (λ k. x ∷ (take n a ++ take k b)) (sym e)

window_grows : (body piece : List ℕ) → window_of (body ++ piece) ≡ window_of body ++ take (1024 - length (window_of body)) piece
unfolding window_size
window_grows body piece = take_grows 1024 body piece

-- text after as much of it as was taken
pub taken_cut : (n : ℕ) (rest piece after : List ℕ) → piece ≡ take n rest → after ≡ drop (length piece) rest → rest ≡ piece ++ after
taken_cut n rest piece after is then =
    cut n rest ∙ ap (λ t. t ++ drop (length t) rest) (sym is) ∙ ap (λ t. piece ++ t) (sym then)
  where
    cut : (n : ℕ) (rest : List ℕ) → rest ≡ take n rest ++ drop (length (take n rest)) rest
    cut zero rest = refl
    cut (suc n) [] = refl
    cut (suc n) (x ∷ rest) = ap (λ t. x ∷ t) (cut n rest)

-- the window gets what it has room for
pub window_more : (first seen window body more piece : List ℕ)
    → (first ≡ window_of body → seen ≡ window_of (body ++ more)) → window ≡ seen ++ take (1024 - length seen) piece
    → first ≡ window_of body → window ≡ window_of (body ++ (more ++ piece))
window_more first seen window body more piece before grew is =
    grew
    ∙ ap (λ t. t ++ take (1024 - length t) piece) (before is)
    ∙ sym (window_grows (body ++ more) piece)
    ∙ ap window_of (append_assoc body more piece)

window_begins : (window piece : List ℕ) → window ≡ take 1024 piece → window ≡ window_of piece
unfolding window_size
window_begins window piece is = is

-- ---- what is read besides

pub reads_more : (a b c : Option (List ℕ)) (P Q : List ℕ → Type 0) (r : Reads a b P) (bytes : List ℕ) → Loses b c bytes
    → Q (r.bytes ++ bytes) → Reads a c Q
reads_more a b c P Q r bytes lost holds = record {
  bytes = r.bytes ++ bytes;
  lost = Loses-twice a b c r.bytes bytes r.lost lost;
  holds = holds;
}

-- nothing besides
pub reads_same : (a b c : Option (List ℕ)) (P Q : List ℕ → Type 0) (r : Reads a b P) → Loses b c [] → Q r.bytes → Reads a c Q
reads_same a b c P Q r lost holds = record {
  bytes = r.bytes;
  lost = subst (λ (t : List ℕ). Loses a c t) (append-nil r.bytes) (Loses-twice a b c r.bytes [] r.lost lost);
  holds = holds;
}

pub some_of : (n : ℕ) → (n ≡ 0 → ⊥) → 1 ≤ n
some_of zero none = absurd (none refl)
some_of (suc n) none = omega arith

pub take_none : (l : List ℕ) (n : ℕ) → n ≡ 0 → take n l ≡ []
take_none [] zero is = refl
take_none (x ∷ l) zero is = refl
take_none l (suc n) is = absurd (cc is)

-- ---- heads

pub nothing_is_open : IsOpenHead []
unfolding head_length head_limit
nothing_is_open = record { open_ = refl; fits = omega arith }

pub open_short : (m : List ℕ) → IsOpenHead m → length m < 65536
unfolding head_limit
open_short m h = h.fits

pub whole_short : (m : List ℕ) → IsHeadText m → length m ≤ 65536
unfolding head_limit
whole_short m h = h.fits

-- the bytes of a head that were gathered, of all that were read
pub AreGathered : (head : List ℕ) (taken : ℕ) (read : List ℕ) → Type 0
AreGathered head taken read = (head ≡ read) × (taken ≡ length read) × IsOpenHead read

pub gathered_first : (head : List ℕ) → head ≡ [] → AreGathered head 0 []
unfolding AreGathered
gathered_first head is = (is, refl, nothing_is_open)

pub gathered_open : (head : List ℕ) (taken : ℕ) (read : List ℕ) → AreGathered head taken read → IsOpenHead head
unfolding AreGathered
gathered_open head taken read h = subst IsOpenHead (sym h.0) h.2

pub gathered_short : (head : List ℕ) (taken : ℕ) (read : List ℕ) → AreGathered head taken read → taken < 65536
unfolding AreGathered
gathered_short head taken read h = omega (arith, h.1, open_short read h.2)

pub gathered_more : (head head' : List ℕ) (taken count : ℕ) (read piece : List ℕ) → AreGathered head taken read
    → TakesHead head head' piece given.Open → count ≡ length piece → AreGathered head' (taken + count) (read ++ piece)
unfolding AreGathered
gathered_more head head' taken count read piece h takes long =
    let grown : head' ≡ read ++ piece = takes.0 ∙ ap (λ t. t ++ piece) h.0 in
    (grown, omega (arith, h.1, long, length-append read piece), subst IsOpenHead grown takes.1)

pub gathered_cut : (c : Option (List ℕ)) (head window : List ℕ) (taken : ℕ) (read : List ℕ) → AreGathered head taken read → IsAtEnd c
    → HeadAnswers (Err outcome.Cut) head window c read
unfolding AreGathered
gathered_cut c head window taken read h end = (end, omega (arith, open_short read h.2), h.2)

pub gathered_fault : (c : Option (List ℕ)) (head window : List ℕ) (taken : ℕ) (read : List ℕ) → AreGathered head taken read
    → HeadAnswers (Err outcome.ReadFault) head window c read
unfolding AreGathered
gathered_fault c head window taken read h = (omega (arith, open_short read h.2), h.2)

pub gathered_long : (c : Option (List ℕ)) (head head' window : List ℕ) (taken : ℕ) (read piece : List ℕ) → AreGathered head taken read
    → length piece ≤ 8192 → TakesHead head head' piece given.Long → HeadAnswers (Err outcome.HeadLimit) head' window c (read ++ piece)
unfolding AreGathered
gathered_long c head head' window taken read piece h few (prefix, rest, cut, grown, long) = (
  omega (arith, open_short read h.2, length-append read piece),
  record {
    prefix = head';
    rest = rest;
    cut = ap (λ t. read ++ t) cut ∙ sym (append_assoc read prefix rest) ∙ ap (λ t. (t ++ prefix) ++ rest) (sym h.0)
        ∙ ap (λ t. t ++ rest) (sym grown);
    long = long;
  },
)

pub gathered_whole : (c : Option (List ℕ)) (head head' window : List ℕ) (taken count used : ℕ) (read piece : List ℕ)
    → AreGathered head taken read → count ≡ length piece → length piece ≤ 8192 → TakesHead head head' piece (given.Whole used)
    → window ≡ take 1024 (drop used piece) → HeadAnswers (Ok (taken + count)) head' window c (read ++ piece)
unfolding AreGathered
gathered_whole c head head' window taken count used read piece h long few (some, within, grown, whole) seen = (
  omega (arith, h.1, long, length-append read piece),
  omega (arith, h.1, long, open_short read h.2),
  record {
    body = drop used piece;
    cut = ap (λ t. read ++ t) (sym (take-append-drop used piece)) ∙ sym (append_assoc read (take used piece) (drop used piece))
        ∙ ap (λ t. (t ++ take used piece) ++ drop used piece) (sym h.0) ∙ ap (λ t. t ++ drop used piece) (sym grown);
    text = whole;
    seen = window_begins window (drop used piece) seen;
  },
)
