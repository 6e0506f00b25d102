-- What may still come at each place, given by pieces of trees, and that a byte read is a byte in
-- prefix of it.
use Rattle.std.proofs.Common.{◌≡◌, ℕ, zero, suc, ◌+◌, ◌*◌, ◌<◌, ◌≤◌, Bool, true, false, cond, nat_lt, nat_le, ◌==◌, List, [], ◌∷◌, length, refl, sym, ap, subst, ◌∙◌, arith, ◌⊎◌, inl, inr}
use Rattle.std.specs.List.{list_all}
use Rattle.std.specs.Char.{is_ascii_hexdigit, digit_value}
use Rattle.std.specs.Str.Parse.{digits_value_after}
use Rattle.std.proofs.lemmas.Bool.{and_from}
use Rattle.std.proofs.lemmas.Bool.Decides.{nat_tests}
use Rattle.http_exchange.specs.Marks.{Mark, Frame, Content, framing, content}
use Rattle.orb_bytes.specs.Ascii.{crlf}
use Rattle.http_exchange.specs.Chunked.{is_line_byte, is_separator, is_ending, is_trailer, SizeLine, IsSizeLine, size_of, Chunked, chunk, last, IsChunked, size_marks, trailers_marks, chunked_marks}
use Rattle.http_exchange.specs.Places.{is_content, with_left, after_size, step, run, marks}
use Rattle.http_exchange.specs.declared.places.Place.{Place}
use Rattle.http_exchange.specs.declared.places.Place.TheVariants.{Size, SizeEnding, SizeLf, Data, DataCr, DataLf, LineStart, TrailerLine, TrailerLf, LastLf, Whole, Dead}

-- a chunked body
pub record BodyLeft (k : List Mark) : Type 0 where
  pub body : Chunked
  pub good : IsChunked body
  pub is : k ≡ chunked_marks body

-- trailers and the empty line
pub record TrailersLeft (k : List Mark) : Type 0 where
  pub trailers : List (List ℕ)
  pub good : list_all is_trailer trailers ≡ true
  pub is : k ≡ trailers_marks trailers

-- so many content bytes, and the rest of the body
pub record DataLeft (n : ℕ) (k : List Mark) : Type 0 where
  pub load : List ℕ
  pub rest : List Mark
  pub long : length load ≡ n
  pub is : k ≡ content load (framing crlf rest)
  pub body : BodyLeft rest

-- after the line of a size
abbrev pub AfterLineLeft : ℕ → List Mark → Type 0
AfterLineLeft zero k = TrailersLeft k
AfterLineLeft (suc n) k = DataLeft (suc n) k

-- digits, what ends them, and what is after the line
pub record SizeLeft (n d : ℕ) (k : List Mark) : Type 0 where
  pub digits : List ℕ
  pub ending : List ℕ
  pub rest : List Mark
  pub some : 1 ≤ d + length digits
  pub few : d ≤ 15 → d + length digits ≤ 15
  pub hex : list_all is_ascii_hexdigit digits ≡ true
  pub ends : is_ending ending ≡ true
  pub is : k ≡ framing digits (framing ending (framing crlf rest))
  pub after : AfterLineLeft (digits_value_after 16 n digits) rest

-- the rest of a line, and what is after it
pub record LineLeft (P : List Mark → Type 0) (k : List Mark) : Type 0 where
  pub bytes : List ℕ
  pub rest : List Mark
  pub all : list_all is_line_byte bytes ≡ true
  pub is : k ≡ framing bytes (framing crlf rest)
  pub after : P rest

-- these framing bytes, and what is after them
pub record BytesLeft (bytes : List ℕ) (P : List Mark → Type 0) (k : List Mark) : Type 0 where
  pub rest : List Mark
  pub is : k ≡ framing bytes rest
  pub after : P rest

abbrev pub Left : Place → List Mark → Type 0
Left (Size n d) k = SizeLeft n d k
Left (SizeEnding n) k = LineLeft (AfterLineLeft n) k
Left (SizeLf n) k = BytesLeft (10 ∷ []) (AfterLineLeft n) k
Left (Data zero) k = Unit {0}
Left (Data (suc n)) k = DataLeft (suc n) k
Left DataCr k = BytesLeft crlf BodyLeft k
Left DataLf k = BytesLeft (10 ∷ []) BodyLeft k
Left LineStart k = TrailersLeft k
Left TrailerLine k = LineLeft TrailersLeft k
Left TrailerLf k = BytesLeft (10 ∷ []) TrailersLeft k
Left LastLf k = k ≡ Frame 10 ∷ []
Left Whole k = k ≡ []
Left Dead k = ⊥

-- which place a test chose
split : (P : Place → Type 0) (t : Bool) (x y : Place) → P (cond t x y) → ((t ≡ true) × P x) ⊎ ((t ≡ false) × P y)
split P true x y h = inl (refl, h)
split P false x y h = inr (refl, h)

is_ten : (b : ℕ) → (b == 10) ≡ true → b ≡ 10
is_ten b h = grind (arith, nat_tests)

is_cr : (b : ℕ) → (b == 13) ≡ true → b ≡ 13
is_cr b h = grind (arith, nat_tests)

-- where the rest of a line comes
line_back : (P : List Mark → Type 0) (b : ℕ) (k : List Mark) → is_line_byte b ≡ true → LineLeft P k → LineLeft P (Frame b ∷ k)
line_back P b k good h = record {
  bytes = b ∷ h.bytes;
  rest = h.rest;
  all = and_from (is_line_byte b) (list_all is_line_byte h.bytes) good h.all;
  is = ap (λ l. Frame b ∷ l) h.is;
  after = h.after;
}

-- where the line ends here
cr_back : (P : List Mark → Type 0) (b : ℕ) (k : List Mark) → b ≡ 13 → BytesLeft (10 ∷ []) P k → LineLeft P (Frame b ∷ k)
cr_back P b k cr h = record {
  bytes = [];
  rest = h.rest;
  all = refl;
  is = ap (λ c. Frame c ∷ k) cr ∙ ap (λ l. Frame 13 ∷ l) h.is;
  after = h.after;
}

-- a byte in prefix of some bytes
byte_back : (P : List Mark → Type 0) (b c : ℕ) (bytes : List ℕ) (k : List Mark) → b ≡ c → BytesLeft bytes P k → BytesLeft (c ∷ bytes) P (Frame b ∷ k)
byte_back P b c bytes k same h = record {
  rest = h.rest;
  is = ap (λ e. Frame e ∷ k) same ∙ ap (λ l. Frame c ∷ l) h.is;
  after = h.after;
}

-- a byte in prefix of what has no bytes to come
last_back : (P : List Mark → Type 0) (b c : ℕ) (k : List Mark) → b ≡ c → P k → BytesLeft (c ∷ []) P (Frame b ∷ k)
last_back P b c k same h = record { rest = k; is = ap (λ e. Frame e ∷ k) same; after = h }

after_left : (n : ℕ) (k : List Mark) → Left (after_size n) k → AfterLineLeft n k
after_left zero k h = h
after_left (suc n) k h = h

data_back : (n b : ℕ) (k : List Mark) → Left (with_left n) k → DataLeft (suc n) (Content b ∷ k)
data_back zero b k h = record {
  load = b ∷ [];
  rest = h.rest;
  long = refl;
  is = ap (λ l. Content b ∷ l) h.is;
  body = h.after;
}
data_back (suc n) b k h = record {
  load = b ∷ h.load;
  rest = h.rest;
  long = ap suc h.long;
  is = ap (λ l. Content b ∷ l) h.is;
  body = h.body;
}

-- ---- a size

digit_back : (n d b : ℕ) (k : List Mark) → is_ascii_hexdigit b ≡ true → nat_lt d 15 ≡ true
    → SizeLeft (n * 16 + digit_value b) (d + 1) k → SizeLeft n d (Frame b ∷ k)
digit_back n d b k hex less h =
    let below : d < 15 = grind (arith, nat_tests) in
    record {
      digits = b ∷ h.digits;
      ending = h.ending;
      rest = h.rest;
      some = omega arith;
      few = λ within. omega (arith, h.few (omega arith));
      hex = and_from (is_ascii_hexdigit b) (list_all is_ascii_hexdigit h.digits) hex h.hex;
      ends = h.ends;
      is = ap (λ l. Frame b ∷ l) h.is;
      after = h.after;
    }

separator_back : (n d b : ℕ) (k : List Mark) → (d == 0) ≡ false → is_separator b ≡ true → LineLeft (AfterLineLeft n) k → SizeLeft n d (Frame b ∷ k)
separator_back n d b k some sep h =
    let above : 1 ≤ d = grind (arith, nat_tests) in
    record {
      digits = [];
      ending = b ∷ h.bytes;
      rest = h.rest;
      some = omega arith;
      few = λ within. omega arith;
      hex = refl;
      ends = and_from (is_separator b) (list_all is_line_byte h.bytes) sep h.all;
      is = ap (λ l. Frame b ∷ l) h.is;
      after = h.after;
    }

size_cr_back : (n d b : ℕ) (k : List Mark) → (d == 0) ≡ false → b ≡ 13 → BytesLeft (10 ∷ []) (AfterLineLeft n) k → SizeLeft n d (Frame b ∷ k)
size_cr_back n d b k some cr h =
    let above : 1 ≤ d = grind (arith, nat_tests) in
    record {
      digits = [];
      ending = [];
      rest = h.rest;
      some = omega arith;
      few = λ within. omega arith;
      hex = refl;
      ends = refl;
      is = ap (λ c. Frame c ∷ k) cr ∙ ap (λ l. Frame 13 ∷ l) h.is;
      after = h.after;
    }

size_back : (n d b : ℕ) (k : List Mark) → Left (step (Size n d) b) k → SizeLeft n d (Frame b ∷ k)
size_back n d b k h =
    let P : Place → Type 0 = λ p. Left p k in
    let digit : Place = cond (nat_lt d 15) (Size (n * 16 + digit_value b) (d + 1)) Dead in
    let cr : Place = cond (b == 13) (SizeLf n) Dead in
    let sep : Place = cond (is_separator b) (SizeEnding n) cr in
    elim (split P (is_ascii_hexdigit b) digit (cond (d == 0) Dead sep) h) [
      | inl x ↦ elim (split P (nat_lt d 15) (Size (n * 16 + digit_value b) (d + 1)) Dead x.1) [
        | inl y ↦ digit_back n d b k x.0 y.0 y.1
        | inr y ↦ absurd y.1
      ]
      | inr x ↦ elim (split P (d == 0) Dead sep x.1) [
        | inl y ↦ absurd y.1
        | inr y ↦ elim (split P (is_separator b) (SizeEnding n) cr y.1) [
          | inl z ↦ separator_back n d b k y.0 z.0 z.1
          | inr z ↦ elim (split P (b == 13) (SizeLf n) Dead z.1) [
            | inl w ↦ size_cr_back n d b k y.0 (is_cr b w.0) w.1
            | inr w ↦ absurd w.1
          ]
        ]
      ]
    ]

-- a line of a size, and what is after it, begin a body
line_of : (digits ending : List ℕ) → SizeLine
line_of digits ending = record { digits = digits; ending = ending }

body_of : (l : SizeLine) (n : ℕ) (rest : List Mark) → IsSizeLine l → size_of l ≡ n → AfterLineLeft n rest → BodyLeft (size_marks l rest)
body_of l zero rest good is h = record {
  body = last l h.trailers;
  good = (good, is, h.good);
  is = ap (size_marks l) h.is;
}
body_of l (suc n) rest good is h = record {
  body = chunk l h.load h.body.body;
  good = (good, omega (arith, is), h.long ∙ sym is, h.body.good);
  is = ap (size_marks l) (h.is ∙ ap (λ r. content h.load (framing crlf r)) h.body.is);
}

pub body_left : (k : List Mark) → SizeLeft 0 0 k → BodyLeft k
body_left k h =
    let line : SizeLine = record { digits = h.digits; ending = h.ending } in
    let good : IsSizeLine line = record {
      some = omega (arith, h.some);
      few = omega (arith, h.few (omega arith));
      hex = h.hex;
      ending = h.ends;
    } in
    let all = body_of line (digits_value_after 16 0 h.digits) h.rest good refl h.after in
    subst BodyLeft (sym h.is) all

-- ---- trailers

more_trailers : (text : List ℕ) (rest : List Mark) → is_trailer text ≡ true → TrailersLeft rest → TrailersLeft (framing text (framing crlf rest))
more_trailers text rest good h = record {
  trailers = text ∷ h.trailers;
  good = and_from (is_trailer text) (list_all is_trailer h.trailers) good h.good;
  is = ap (λ r. framing text (framing crlf r)) h.is;
}

one_or_more : (bytes : List ℕ) → nat_le 1 (suc (length bytes)) ≡ true
one_or_more bytes = grind (arith, nat_tests)

trailer_back : (b : ℕ) (k : List Mark) → is_line_byte b ≡ true → LineLeft TrailersLeft k → TrailersLeft (Frame b ∷ k)
trailer_back b k good h =
    let all : list_all is_line_byte (b ∷ h.bytes) ≡ true = and_from (is_line_byte b) (list_all is_line_byte h.bytes) good h.all in
    let long : is_trailer (b ∷ h.bytes) ≡ true = and_from _ _ (one_or_more h.bytes) all in
    subst TrailersLeft (ap (λ l. Frame b ∷ l) (sym h.is)) (more_trailers (b ∷ h.bytes) h.rest long h.after)

-- ---- all places

back : (p : Place) (b : ℕ) (k : List Mark) → Left (step p b) k → Left p (cond (is_content p) (Content b) (Frame b) ∷ k)
back (Size n d) b k h = size_back n d b k h
back (SizeEnding n) b k h =
    let P : Place → Type 0 = λ p. Left p k in
    elim (split P (is_line_byte b) (SizeEnding n) (cond (b == 13) (SizeLf n) Dead) h) [
      | inl x ↦ line_back (AfterLineLeft n) b k x.0 x.1
      | inr x ↦ elim (split P (b == 13) (SizeLf n) Dead x.1) [
        | inl y ↦ cr_back (AfterLineLeft n) b k (is_cr b y.0) y.1
        | inr y ↦ absurd y.1
      ]
    ]
back (SizeLf n) b k h =
    let P : Place → Type 0 = λ p. Left p k in
    elim (split P (b == 10) (after_size n) Dead h) [
      | inl x ↦ last_back (AfterLineLeft n) b 10 k (is_ten b x.0) (after_left n k x.1)
      | inr x ↦ absurd x.1
    ]
back (Data zero) b k h = tt
back (Data (suc n)) b k h = data_back n b k h
back DataCr b k h =
    let P : Place → Type 0 = λ p. Left p k in
    elim (split P (b == 13) DataLf Dead h) [
      | inl x ↦ byte_back BodyLeft b 13 (10 ∷ []) k (is_cr b x.0) x.1
      | inr x ↦ absurd x.1
    ]
back DataLf b k h =
    let P : Place → Type 0 = λ p. Left p k in
    elim (split P (b == 10) (Size 0 0) Dead h) [
      | inl x ↦ last_back BodyLeft b 10 k (is_ten b x.0) (body_left k x.1)
      | inr x ↦ absurd x.1
    ]
back LineStart b k h =
    let P : Place → Type 0 = λ p. Left p k in
    elim (split P (is_line_byte b) TrailerLine (cond (b == 13) LastLf Dead) h) [
      | inl x ↦ trailer_back b k x.0 x.1
      | inr x ↦ elim (split P (b == 13) LastLf Dead x.1) [
        | inl y ↦ record {
          trailers = [];
          good = refl;
          is = ap (λ c. Frame c ∷ k) (is_cr b y.0) ∙ ap (λ l. Frame 13 ∷ l) y.1;
        }
        | inr y ↦ absurd y.1
      ]
    ]
back TrailerLine b k h =
    let P : Place → Type 0 = λ p. Left p k in
    elim (split P (is_line_byte b) TrailerLine (cond (b == 13) TrailerLf Dead) h) [
      | inl x ↦ line_back TrailersLeft b k x.0 x.1
      | inr x ↦ elim (split P (b == 13) TrailerLf Dead x.1) [
        | inl y ↦ cr_back TrailersLeft b k (is_cr b y.0) y.1
        | inr y ↦ absurd y.1
      ]
    ]
back TrailerLf b k h =
    let P : Place → Type 0 = λ p. Left p k in
    elim (split P (b == 10) LineStart Dead h) [
      | inl x ↦ last_back TrailersLeft b 10 k (is_ten b x.0) x.1
      | inr x ↦ absurd x.1
    ]
back LastLf b k h =
    let P : Place → Type 0 = λ p. Left p k in
    elim (split P (b == 10) Whole Dead h) [
      | inl x ↦ ap (λ c. Frame c ∷ k) (is_ten b x.0) ∙ ap (λ l. Frame 10 ∷ l) x.1
      | inr x ↦ absurd x.1
    ]
back Whole b k h = absurd h
back Dead b k h = absurd h

-- what leads to the end is what may still come
pub taken : (m : List ℕ) (p : Place) → run p m ≡ Whole → Left p (marks p m)
taken [] p h = let P : Place → Type 0 = λ q. Left q [] in subst P (sym h) refl
taken (b ∷ m) p h = back p b (marks (step p b) m) (taken m (step p b) h)
