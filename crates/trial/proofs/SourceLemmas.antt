-- The texts of the source, as they are written piece by piece.
use Rattle.std.proofs.Common.{◌≡◌, ℕ, zero, suc, ◌+◌, ◌-◌, ◌/◌, ◌<◌, ◌≤◌, false, List, [], ◌++◌, length, take, drop, refl, sym, ap, ◌∙◌, arith, append-nil, append_assoc, length-drop}
use Rattle.std.proofs.lemmas.List.{take-append-drop, take-append-le, drop-drop, take_all, drop_all}
use Rattle.trial.specs.Trials.{numbered_text, trial_of}
use Rattle.std.specs.Fmt.{digits}
use Rattle.std.specs.List.{repeat}
use Rattle.orb_bytes.specs.Ascii.{crlf}
use Rattle.http_exchange.specs.Chunks.{chunk}
use Rattle.trial.specs.Texts.{in_chunks, chunked_text}

-- a chunk after a text
pub chunk_after : (text bytes : List ℕ)
    → (((text ++ digits 16 false (length bytes)) ++ crlf) ++ bytes) ++ crlf ≡ text ++ chunk bytes
unfolding chunk
chunk_after text bytes =
    let size = digits 16 false (length bytes) in
    append_assoc ((text ++ size) ++ crlf) bytes crlf
    ∙ append_assoc (text ++ size) crlf (bytes ++ crlf)
    ∙ append_assoc text size (crlf ++ (bytes ++ crlf))

-- a full chunk, and those after it
pub chunks_step : (left : List ℕ) → 100 ≤ length left
    → chunked_text 100 left ≡ chunk (take 100 left) ++ chunked_text 100 (drop 100 left)
chunks_step left full =
    let count : length left / 100 ≡ suc (length (drop 100 left) / 100) = omega (arith, length-drop 100 left) in
    ap (λ n. in_chunks 100 n left) count

-- one unit more
pub repeat_more : (count : ℕ) (unit : List ℕ) → repeat count unit ++ unit ≡ repeat (suc count) unit
repeat_more zero unit = sym (append-nil unit)
repeat_more (suc count) unit = append_assoc unit (repeat count unit) unit ∙ ap (λ l. unit ++ l) (repeat_more count unit)

-- ---- heads of one, two and three fields

pub one_field : (text line f : List ℕ)
    → (text ++ (line ++ crlf)) ++ (f ++ crlf) ≡ text ++ (line ++ (crlf ++ ((f ++ []) ++ crlf)))
one_field text line f = simp (append_assoc, append-nil) refl

pub two_fields : (text line f g : List ℕ)
    → ((text ++ (line ++ crlf)) ++ f) ++ (g ++ crlf) ≡ text ++ (line ++ (crlf ++ ((f ++ (g ++ [])) ++ crlf)))
two_fields text line f g = simp (append_assoc, append-nil) refl

pub three_fields : (text line f g h : List ℕ)
    → (((text ++ (line ++ crlf)) ++ f) ++ g) ++ (h ++ crlf)
    ≡ text ++ (line ++ (crlf ++ ((f ++ (g ++ (h ++ []))) ++ crlf)))
three_fields text line f g h = simp (append_assoc, append-nil) refl

pub two_fields_end : (text line f g : List ℕ)
    → (((text ++ (line ++ crlf)) ++ f) ++ g) ++ crlf ≡ text ++ (line ++ (crlf ++ ((f ++ (g ++ [])) ++ crlf)))
two_fields_end text line f g = simp (append_assoc, append-nil) refl

-- ---- pulls

-- what a source is to give, where all of one exchange was given only if none is left
pub record Ready (whole text : List ℕ) (offset number count : ℕ) : Type 0 where
  pub within : offset ≤ length text
  pub same : drop offset text ++ trial_of number count ≡ whole
  pub last : offset ≡ length text → count ≡ 0

-- the next exchange
pub ready-next : (text next : List ℕ) (offset number count : ℕ) → offset ≡ length text → 0 < count
    → next ≡ numbered_text number → 0 < length next
    → Ready (drop offset text ++ trial_of number count) next 0 (number + 1) (count - 1)
ready-next text next offset number zero full some is long = absurd (omega (arith, some))
ready-next text next offset number (suc count) full some is long =
    let one_less : suc count - 1 ≡ count = omega arith in
    let none : drop offset text ≡ [] = drop_all offset text (omega (arith, full)) in
    record {
      within = omega arith;
      same = rw (one_less, none, is) refl;
      last = λ e. absurd (omega (arith, e, long));
    }

-- n of the bytes, and those after them
pub given : (text more : List ℕ) (offset n : ℕ)
    → drop offset text ++ more ≡ take n (drop offset text) ++ (drop (offset + n) text ++ more)
given text more offset n =
    ap (λ l. l ++ more) (sym (take-append-drop n (drop offset text)))
    ∙ append_assoc (take n (drop offset text)) (drop n (drop offset text)) more
    ∙ ap (λ l. take n (drop offset text) ++ (l ++ more)) (drop-drop n offset text)

pub none_left : (whole text : List ℕ) (offset number count : ℕ) → Ready whole text offset number count → length (drop offset text) ≡ 0
    → drop (offset + 0) text ++ trial_of number count ≡ []
none_left whole text offset number count ready none =
    let full : offset ≡ length text = omega (arith, length-drop offset text, ready.within) in
    let last : count ≡ 0 = ready.last full in
    rw (last, drop_all (offset + 0) text (omega (arith, full))) refl

pub take_whole : (text more : List ℕ) (n : ℕ) → length text ≡ n → take n (text ++ more) ≡ text
take_whole text more n whole =
    take-append-le n text more (omega (arith, whole)) ∙ take_all n text (omega (arith, whole))
