-- A chunked body is read to its end, and each of its bytes as it is marked.
use Rattle.std.proofs.Common.{◌≡◌, ℕ, zero, suc, ◌+◌, ◌*◌, ◌≤◌, true, false, nat_lt, ◌==◌, List, [], ◌∷◌, length, refl, sym, ap, subst, ◌∙◌, arith}
use Rattle.std.specs.List.{list_all}
use Rattle.std.specs.Char.{is_ascii_hexdigit, digit_value}
use Rattle.std.specs.Str.Parse.{digits_value_after}
use Rattle.std.proofs.lemmas.Bool.{and_parts}
use Rattle.std.proofs.lemmas.Bool.Decides.{nat_tests}
use Rattle.http_exchange.specs.Marks.{Mark, Frame, Content, bytes_of, framing, content}
use Rattle.orb_bytes.specs.Ascii.{crlf}
use Rattle.http_exchange.specs.Chunked.{is_line_byte, is_separator, is_ending, is_trailer, SizeLine, IsSizeLine, size_of, Chunked, chunk, last, IsChunked, size_marks, trailers_marks, chunked_marks}
use Rattle.http_exchange.specs.Places.{is_content, with_left, after_size, step, run, marks}
use Rattle.http_exchange.specs.declared.places.Place.{Place}
use Rattle.http_exchange.specs.declared.places.Place.TheVariants.{Size, SizeEnding, SizeLf, DataCr, LineStart, TrailerLine, Whole}

-- the marked bytes lead from one place to the other, and each is marked as it is read
abbrev pub Follows : Place → List Mark → Place → Type 0
Follows p [] q = p ≡ q
Follows p (Frame b ∷ k) q = (is_content p ≡ false) × Follows (step p b) k q
Follows p (Content b ∷ k) q = (is_content p ≡ true) × Follows (step p b) k q

pub follows_run : (p : Place) (k : List Mark) (q : Place) → Follows p k q → run p (bytes_of k) ≡ q
follows_run p [] q h = h
follows_run p (Frame b ∷ k) q h = follows_run (step p b) k q h.1
follows_run p (Content b ∷ k) q h = follows_run (step p b) k q h.1

pub follows_marks : (p : Place) (k : List Mark) (q : Place) → Follows p k q → marks p (bytes_of k) ≡ k
follows_marks p [] q h = refl
follows_marks p (Frame b ∷ k) q h = rw (h.0, follows_marks (step p b) k q h.1) refl
follows_marks p (Content b ∷ k) q h = rw (h.0, follows_marks (step p b) k q h.1) refl

at : (p r : Place) (k : List Mark) (q : Place) → p ≡ r → Follows r k q → Follows p k q
at p r k q e h = let P : Place → Type 0 = λ x. Follows x k q in subst P (sym e) h

-- ---- the line of a size

ending_follows : (bytes : List ℕ) (n : ℕ) (rest : List Mark) (q : Place) → list_all is_line_byte bytes ≡ true
    → Follows (after_size n) rest q → Follows (SizeEnding n) (framing bytes (framing crlf rest)) q
ending_follows [] n rest q all h = (refl, (refl, h))
ending_follows (b ∷ bytes) n rest q all h =
    let parts = and_parts (is_line_byte b) (list_all is_line_byte bytes) all in
    (refl, at (step (SizeEnding n) b) (SizeEnding n) _ q (rw parts.0 refl) (ending_follows bytes n rest q parts.1 h))

digits_follow : (digits : List ℕ) (n d e : ℕ) (rest : List Mark) (q : Place) → list_all is_ascii_hexdigit digits ≡ true
    → d + length digits ≤ 15 → e ≡ d + length digits → Follows (Size (digits_value_after 16 n digits) e) rest q
    → Follows (Size n d) (framing digits rest) q
digits_follow [] n d e rest q all few is h = at (Size n d) (Size n e) rest q (ap (Size n) (omega (arith, is))) h
digits_follow (c ∷ digits) n d e rest q all few is h =
    let parts = and_parts (is_ascii_hexdigit c) (list_all is_ascii_hexdigit digits) all in
    let less : nat_lt d 15 ≡ true = grind (arith, nat_tests, few) in (
      refl,
      at (step (Size n d) c) (Size (n * 16 + digit_value c) (d + 1)) _ q (rw (parts.0, less) refl)
          (digits_follow digits (n * 16 + digit_value c) (d + 1) e rest q parts.1 (omega (arith, few)) (omega (arith, is)) h),
    )

not_zero : (d : ℕ) → 1 ≤ d → (d == 0) ≡ false
not_zero zero h = absurd (omega (arith, h))
not_zero (suc d) h = grind (arith, nat_tests)

separator_not_hex : (b : ℕ) → is_separator b ≡ true → is_ascii_hexdigit b ≡ false
separator_not_hex b h = grind (arith, nat_tests)

ends_line : (ending : List ℕ) (n d : ℕ) (rest : List Mark) (q : Place) → 1 ≤ d → is_ending ending ≡ true
    → Follows (after_size n) rest q → Follows (Size n d) (framing ending (framing crlf rest)) q
ends_line [] n d rest q some good h =
    (refl, at (step (Size n d) 13) (SizeLf n) (Frame 10 ∷ rest) q (rw (not_zero d some) refl) (refl, h))
ends_line (b ∷ bytes) n d rest q some good h =
    let parts = and_parts (is_separator b) (list_all is_line_byte bytes) good in (
      refl,
      at (step (Size n d) b) (SizeEnding n) _ q (rw (separator_not_hex b parts.0, not_zero d some, parts.0) refl)
          (ending_follows bytes n rest q parts.1 h),
    )

size_follows : (l : SizeLine) (rest : List Mark) (q : Place) → IsSizeLine l → Follows (after_size (size_of l)) rest q
    → Follows (Size 0 0) (size_marks l rest) q
size_follows l rest q good h =
    digits_follow l.digits 0 0 (length l.digits) _ q good.hex (omega (arith, good.few)) (omega arith)
    (ends_line l.ending (size_of l) (length l.digits) rest q good.some good.ending h)

-- ---- content, trailers and the whole

data_follows : (load : List ℕ) (rest : List Mark) (q : Place) → Follows DataCr rest q
    → Follows (with_left (length load)) (content load rest) q
data_follows [] rest q h = h
data_follows (b ∷ load) rest q h = (refl, data_follows load rest q h)

after_some : (n : ℕ) → 1 ≤ n → after_size n ≡ with_left n
after_some zero h = absurd (omega (arith, h))
after_some (suc n) h = refl

line_follows : (bytes : List ℕ) (rest : List Mark) (q : Place) → list_all is_line_byte bytes ≡ true
    → Follows LineStart rest q → Follows TrailerLine (framing bytes (framing crlf rest)) q
line_follows [] rest q all h = (refl, (refl, h))
line_follows (b ∷ bytes) rest q all h =
    let parts = and_parts (is_line_byte b) (list_all is_line_byte bytes) all in
    (refl, at (step TrailerLine b) TrailerLine _ q (rw parts.0 refl) (line_follows bytes rest q parts.1 h))

trailer_follows : (text : List ℕ) (rest : List Mark) (q : Place) → is_trailer text ≡ true
    → Follows LineStart rest q → Follows LineStart (framing text (framing crlf rest)) q
trailer_follows [] rest q good h = absurd (cc good)
trailer_follows (b ∷ bytes) rest q good h =
    let parts = and_parts _ (list_all is_line_byte (b ∷ bytes)) good in
    let bytes_parts = and_parts (is_line_byte b) (list_all is_line_byte bytes) parts.1 in
    (refl, at (step LineStart b) TrailerLine _ q (rw bytes_parts.0 refl) (line_follows bytes rest q bytes_parts.1 h))

trailers_follow : (texts : List (List ℕ)) → list_all is_trailer texts ≡ true → Follows LineStart (trailers_marks texts) Whole
trailers_follow [] all = (refl, (refl, refl))
trailers_follow (text ∷ texts) all =
    let parts = and_parts (is_trailer text) (list_all is_trailer texts) all in
    trailer_follows text (trailers_marks texts) Whole parts.0 (trailers_follow texts parts.1)

pub body_follows : (c : Chunked) → IsChunked c → Follows (Size 0 0) (chunked_marks c) Whole
body_follows (chunk line load others) good =
    size_follows line _ Whole good.0
    (at (after_size (size_of line)) (with_left (length load)) _ Whole
    (after_some (size_of line) good.1 ∙ ap with_left (sym good.2))
    (data_follows load _ Whole (refl, (refl, body_follows others good.3))))
body_follows (last line trailers) good =
    size_follows line _ Whole good.0
    (at (after_size (size_of line)) LineStart _ Whole (ap after_size good.1) (trailers_follow trailers good.2))
