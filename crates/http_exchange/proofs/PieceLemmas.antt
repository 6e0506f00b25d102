-- Framing and content of a piece.
use Rattle.std.proofs.Common.{◌≡◌, ℕ, zero, suc, ◌+◌, ◌-◌, ◌*◌, ◌^◌, ◌<◌, ◌≤◌, true, false, ◌||◌, List, [], ◌∷◌, ◌++◌, length, take, drop, get_or, min, Bool, refl, sym, ap, ◌∙◌, arith, lit<, length-drop}
use Rattle.std.proofs.lemmas.List.{length-take}
use Rattle.std.proofs.lemmas.Bool.{false≢true}
use Rattle.std.proofs.Math.Nat.{pow-le-pow_right}
use Rattle.std.proofs.Math.Seq.{take-add}
use Rattle.http_exchange.specs.Pieces.{Passes, Fails, Takes, Reads}
use Rattle.http_exchange.specs.Places.{is_content, is_dead, is_end, with_left, step, run, gives}
use Rattle.http_exchange.specs.declared.places.Place.{Place}
use Rattle.http_exchange.specs.declared.places.Place.TheVariants.{Data}
use Rattle.http_exchange.proofs.RunLemmas.{run-append, gives-append, run-more, dead_is}

-- a size of fewer than 15 digits and one digit more fit 64 bits
pub one_digit_fits : (n d v : ℕ) → n < 16 ^ d → d < 15 → v ≤ 15 → n * 16 + v < 2 ^ 64
one_digit_fits n d v fits few small =
    let sixteen : 0 < 16 = lit< tt in omega (arith, pow-le-pow_right {n = 16} sixteen {i = d} {j = 14} (omega arith))

-- ---- content

content_run : (body : List ℕ) (n : ℕ) → length body ≤ n → run (with_left n) body ≡ with_left (n - length body)
content_run [] n within = ap with_left (omega arith)
content_run (b ∷ body) zero within = absurd (omega (arith, within))
content_run (b ∷ body) (suc n) within =
    content_run body n (omega (arith, within)) ∙ ap with_left (omega arith)

content_gives : (body : List ℕ) (n : ℕ) → length body ≤ n → gives (with_left n) body ≡ body
content_gives [] n within = refl
content_gives (b ∷ body) zero within = absurd (omega (arith, within))
content_gives (b ∷ body) (suc n) within = ap (λ l. b ∷ l) (content_gives body n (omega (arith, within)))

with_left_alive : (n : ℕ) → is_dead (with_left n) ≡ false
with_left_alive zero = refl
with_left_alive (suc n) = refl

pub with_left_some : (n : ℕ) → 1 ≤ n → with_left n ≡ Data n
with_left_some zero some = absurd (omega (arith, some))
with_left_some (suc n) some = refl

-- the content at the beginning of a piece
pub takes : (left : ℕ) (piece body : List ℕ) → 1 ≤ left → body ≡ take (min left (length piece)) piece
    → Takes (Data left) (with_left (left - length body)) piece body
takes left piece body some is =
    let long : length body ≡ min left (length piece) =
    ap length is ∙ length-take (min left (length piece)) piece ∙ omega arith in
    let same : with_left left ≡ Data left = with_left_some left some in
    let within : length body ≤ left = omega (arith, long) in
    record {
      within = omega (arith, long);
      is = is ∙ ap (λ n. take n piece) (sym long);
      leads = ap (λ p. run p body) (sym same) ∙ content_run body left within;
      content = ap (λ p. gives p body) (sym same) ∙ content_gives body left within;
      alive = λ alive. with_left_alive (left - length body);
      ends = λ less. let none : left - length body ≡ 0 = omega (arith, long) in ap (λ n. is_content (with_left n)) none;
      some = λ none one. let zero_long : length body ≡ 0 = ap length none in absurd (omega (arith, long));
    }

-- ---- framing

or_right : (a b : Bool) → (a || b) ≡ true → a ≡ false → b ≡ true
or_right true b h no_a = absurd (false≢true (sym no_a))
or_right false b h no_a = h

pub fails : (p q r : Place) (piece : List ℕ) (i : ℕ) → i < length piece → run p (take i piece) ≡ q → gives p (take i piece) ≡ []
    → (is_dead p ≡ false → is_dead q ≡ false) → is_content q ≡ false → is_end q ≡ false → r ≡ step q (get_or piece i 0)
    → is_dead r ≡ true → Fails p piece i
fails p q r piece i less leads frames alive framing unfinished next dead = record {
  within = less;
  frames = frames;
  alive = λ a. ap is_dead leads ∙ alive a;
  reads = ap is_content leads ∙ framing;
  unfinished = ap is_end leads ∙ unfinished;
  dead = run-more p q piece i less leads ∙ sym next ∙ dead_is r dead;
}

-- ---- framing, then content

pub reads : (p q r : Place) (piece body : List ℕ) (n : ℕ) → Passes p q piece n → Takes q r (drop n piece) body
    → Reads p r piece body (n + length body)
reads p q r piece body n h t =
    let rest : length (drop n piece) + n ≡ length piece = omega (arith, length-drop n piece, h.within) in
    let both : take (n + length body) piece ≡ take n piece ++ body =
    take-add n (length body) piece ∙ ap (λ l. take n piece ++ l) (sym t.is) in
    record {
      within = omega (arith, rest, t.within);
      leads = ap (run p) both ∙ run-append p (take n piece) body ∙ ap (λ x. run x body) h.leads ∙ t.leads;
      content =
          ap (gives p) both ∙ gives-append p (take n piece) body
          ∙ ap (λ l. l ++ gives (run p (take n piece)) body) h.frames
          ∙ ap (λ x. gives x body) h.leads ∙ t.content;
      alive = λ alive. t.alive (h.alive alive);
      ends = λ less. t.ends (omega (arith, rest));
      rests = λ none less.
          let no_bytes : length body ≡ 0 = ap length none in
          let room : 1 ≤ length (drop n piece) = omega (arith, rest, no_bytes, less) in
          let ends : is_end q ≡ true = or_right (is_content q) (is_end q) (h.stops (omega (arith, no_bytes, less))) (t.some none room) in
          let same : q ≡ r = ap (run q) (sym none) ∙ t.leads in
          ap is_end (sym same) ∙ ends;
    }
