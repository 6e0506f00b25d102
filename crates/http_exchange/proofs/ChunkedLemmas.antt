-- What the places say of a list of bytes: whether a chunked body begins with it, which bytes are
-- content, and whether it is a whole body.
use Rattle.std.proofs.Common.{◌≡◌, ℕ, zero, suc, ◌+◌, ◌*◌, false, ◌==◌, List, [], ◌∷◌, ◌++◌, refl, sym, ap, subst, ◌∙◌, arith}
use Rattle.std.proofs.lemmas.Bool.{false≢true}
use Rattle.std.proofs.lemmas.Bool.Decides.{nat_tests}
use Rattle.http_exchange.specs.Marks.{Mark, Frame, Content, bytes_of, content_of}
use Rattle.http_exchange.specs.Chunked.{chunked_marks, IsChunkedPrefix, IsChunkedWhole}
use Rattle.http_exchange.specs.Places.{is_dead, with_left, step, run, marks, gives}
use Rattle.http_exchange.specs.declared.places.Place.{Place}
use Rattle.http_exchange.specs.declared.places.Place.TheVariants.{Size, SizeEnding, SizeLf, Data, DataCr, DataLf, LineStart, TrailerLine, TrailerLf, LastLf, Whole, Dead}
use Rattle.http_exchange.proofs.RunLemmas.{run-append, marks-append, bytes_of-append, bytes_of-marks, alive_prefix}
use Rattle.http_exchange.proofs.SpellLemmas.{Follows, follows_run, follows_marks, body_follows}
use Rattle.http_exchange.proofs.Residuals.{body_left, taken}

-- ---- each place but the dead one leads to the end

record Ends (p : Place) : Type 0 where
  more : List ℕ
  ends : run p more ≡ Whole

-- by a byte
by : (p : Place) (b : ℕ) (q : Place) → step p b ≡ q → Ends q → Ends p
by p b q e h = record { more = b ∷ h.more; ends = ap (λ r. run r h.more) e ∙ h.ends }

body_ends : Ends (Size 0 0)
body_ends = record { more = 48 ∷ 13 ∷ 10 ∷ 13 ∷ 10 ∷ []; ends = refl }

trailers_end : Ends LineStart
trailers_end = record { more = 13 ∷ 10 ∷ []; ends = refl }

data_cr_ends : Ends DataCr
data_cr_ends = by DataCr 13 DataLf refl (by DataLf 10 (Size 0 0) refl body_ends)

data_ends : (n : ℕ) → Ends (with_left n)
data_ends zero = data_cr_ends
data_ends (suc n) = by (Data (suc n)) 0 (with_left n) refl (data_ends n)

size_lf_ends : (n : ℕ) → Ends (SizeLf n)
size_lf_ends zero = by (SizeLf zero) 10 LineStart refl trailers_end
size_lf_ends (suc n) = by (SizeLf (suc n)) 10 (Data (suc n)) refl (data_ends (suc n))

size_ends : (n d : ℕ) → Ends (Size n (suc d))
size_ends n d =
    let some : (suc d == 0) ≡ false = grind (arith, nat_tests) in
    by (Size n (suc d)) 13 (SizeLf n) (rw some refl) (size_lf_ends n)

can_end : (p : Place) → is_dead p ≡ false → Ends p
can_end (Size n zero) alive = by (Size n zero) 48 (Size (n * 16 + 0) 1) refl (size_ends (n * 16 + 0) 0)
can_end (Size n (suc d)) alive = size_ends n d
can_end (SizeEnding n) alive = by (SizeEnding n) 13 (SizeLf n) refl (size_lf_ends n)
can_end (SizeLf n) alive = size_lf_ends n
can_end (Data zero) alive = by (Data zero) 0 DataCr refl data_cr_ends
can_end (Data (suc n)) alive = data_ends (suc n)
can_end DataCr alive = data_cr_ends
can_end DataLf alive = by DataLf 10 (Size 0 0) refl body_ends
can_end LineStart alive = trailers_end
can_end TrailerLine alive = by TrailerLine 13 TrailerLf refl (by TrailerLf 10 LineStart refl trailers_end)
can_end TrailerLf alive = by TrailerLf 10 LineStart refl trailers_end
can_end LastLf alive = by LastLf 10 Whole refl (record { more = []; ends = refl })
can_end Whole alive = record { more = []; ends = refl }
can_end Dead alive = absurd (false≢true (sym alive))

-- ---- prefixes

pub prefix_of_alive : (m : List ℕ) → is_dead (run (Size 0 0) m) ≡ false → IsChunkedPrefix m (gives (Size 0 0) m)
prefix_of_alive m alive =
    let e = can_end (run (Size 0 0) m) alive in
    let whole : run (Size 0 0) (m ++ e.more) ≡ Whole = run-append (Size 0 0) m e.more ∙ e.ends in
    let left = body_left (marks (Size 0 0) (m ++ e.more)) (taken (m ++ e.more) (Size 0 0) whole) in
    record {
      body = left.body;
      good = left.good;
      prefix = marks (Size 0 0) m;
      rest = marks (run (Size 0 0) m) e.more;
      spells = sym left.is ∙ marks-append (Size 0 0) m e.more;
      reads = bytes_of-marks (Size 0 0) m;
      gives = refl;
    }

-- the prefix of what leads on leads on
follows_prefix : (a b : List Mark) (p q : Place) → Follows p (a ++ b) q → Follows p a (run p (bytes_of a))
follows_prefix [] b p q h = refl
follows_prefix (Frame x ∷ a) b p q h = (h.0, follows_prefix a b (step p x) q h.1)
follows_prefix (Content x ∷ a) b p q h = (h.0, follows_prefix a b (step p x) q h.1)

prefix_follows : (m given : List ℕ) (h : IsChunkedPrefix m given) → Follows (Size 0 0) (h.prefix ++ h.rest) Whole
prefix_follows m given h =
    let P : List Mark → Type 0 = λ k. Follows (Size 0 0) k Whole in subst P h.spells (body_follows h.body h.good)

pub alive_of_prefix : (m given : List ℕ) → IsChunkedPrefix m given → is_dead (run (Size 0 0) m) ≡ false
alive_of_prefix m given h =
    let whole = follows_run (Size 0 0) (h.prefix ++ h.rest) Whole (prefix_follows m given h) in
    let parts : run (Size 0 0) (bytes_of h.prefix ++ bytes_of h.rest) ≡ Whole =
    ap (run (Size 0 0)) (sym (bytes_of-append h.prefix h.rest)) ∙ whole in
    let alive = alive_prefix (Size 0 0) (bytes_of h.prefix) (bytes_of h.rest) (ap is_dead parts) in
    ap (λ l. is_dead (run (Size 0 0) l)) (sym h.reads) ∙ alive

pub gives_of_prefix : (m given : List ℕ) → IsChunkedPrefix m given → given ≡ gives (Size 0 0) m
gives_of_prefix m given h =
    let prefix = follows_prefix h.prefix h.rest (Size 0 0) Whole (prefix_follows m given h) in
    let same = follows_marks (Size 0 0) h.prefix (run (Size 0 0) (bytes_of h.prefix)) prefix in
    sym h.gives ∙ ap content_of (sym same) ∙ ap (gives (Size 0 0)) h.reads

-- ---- whole bodies

pub whole_of_end : (m : List ℕ) → run (Size 0 0) m ≡ Whole → IsChunkedWhole m
whole_of_end m whole =
    let left = body_left (marks (Size 0 0) m) (taken m (Size 0 0) whole) in
    record { body = left.body; good = left.good; spells = ap bytes_of (sym left.is) ∙ bytes_of-marks (Size 0 0) m }

pub end_of_whole : (m : List ℕ) → IsChunkedWhole m → run (Size 0 0) m ≡ Whole
end_of_whole m h =
    ap (run (Size 0 0)) (sym h.spells) ∙ follows_run (Size 0 0) (chunked_marks h.body) Whole (body_follows h.body h.good)
