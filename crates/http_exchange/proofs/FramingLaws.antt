-- What goes out of a body, piece by piece.
use Rattle.std.proofs.Common.{◌≡◌, ℕ, ◌%◌, Bool, true, false, List, [], ◌++◌, length, if◌then◌else◌, Result, Ok, Err, OnOk, refl, sym, ap, ◌∙◌, arith}
use Rattle.std.proofs.lemmas.List.{append-nil}
use Rattle.http_exchange.specs.Chunks.{chunk_size, body_so_far, whole_body, kept_of}
use Rattle.http_exchange.specs.Framing.{put_of, kept_after, end_of}
use Rattle.http_exchange.proofs.ChunkLemmas.{chunks-on, rest-on, rest-length, chunks-short, rest-whole}

pub prefix-on : (chunked : Bool) (m p : List ℕ)
    → body_so_far chunked (m ++ p) ≡ body_so_far chunked m ++ put_of chunked (kept_of chunked m) p
unfolding body_so_far put_of kept_of
prefix-on true m p = chunks-on m p
prefix-on false m p = refl

pub kept-on : (chunked : Bool) (m p : List ℕ)
    → kept_of chunked (m ++ p) ≡ kept_after chunked (kept_of chunked m) p
unfolding kept_after kept_of
kept-on true m p = rest-on m p
kept-on false m p = refl

pub whole-is : (chunked : Bool) (m : List ℕ)
    → whole_body chunked m ≡ body_so_far chunked m ++ end_of chunked (kept_of chunked m)
unfolding body_so_far whole_body end_of kept_of
whole-is true m = refl
whole-is false m = sym (append-nil m)

pub prefix-none : (chunked : Bool) → body_so_far chunked [] ≡ []
unfolding body_so_far
prefix-none true = chunks-short [] (omega arith)
prefix-none false = refl

pub kept-none : (chunked : Bool) → kept_of chunked [] ≡ []
unfolding kept_of
kept-none true = rest-whole [] (omega arith)
kept-none false = refl

-- the first piece of a body
pub put-first : (chunked : Bool) (p : List ℕ) → put_of chunked [] p ≡ body_so_far chunked p
unfolding put_of body_so_far
put-first true p = refl
put-first false p = refl

pub kept-first : (chunked : Bool) (p : List ℕ) → kept_after chunked [] p ≡ kept_of chunked p
unfolding kept_after kept_of
kept-first true p = refl
kept-first false p = refl

-- how much is kept
pub kept-length : (chunked : Bool) (m : List ℕ) → length (kept_of chunked m) ≡ (if chunked then length m % chunk_size else 0)
unfolding kept_of chunk_size
kept-length true m = rest-length m
kept-length false m = refl

-- a body that was held, with the piece after it
pub released : (chunked : Bool) (m p : List ℕ)
    → put_of chunked [] m ++ put_of chunked (kept_after chunked [] m) p ≡ body_so_far chunked (m ++ p)
released chunked m p =
    ap (λ t. t ++ put_of chunked (kept_after chunked [] m) p) (put-first chunked m)
    ∙ (ap (λ t. body_so_far chunked m ++ put_of chunked t p) (kept-first chunked m)
    ∙ sym (prefix-on chunked m p))

pub released-kept : (chunked : Bool) (m p : List ℕ)
    → kept_after chunked (kept_after chunked [] m) p ≡ kept_of chunked (m ++ p)
released-kept chunked m p =
    ap (λ t. kept_after chunked t p) (kept-first chunked m) ∙ sym (kept-on chunked m p)

-- a whole body that was held
pub held-whole : (chunked : Bool) (m : List ℕ)
    → put_of chunked [] m ++ end_of chunked (kept_after chunked [] m) ≡ whole_body chunked m
held-whole chunked m =
    ap (λ t. t ++ end_of chunked (kept_after chunked [] m)) (put-first chunked m)
    ∙ (ap (λ t. body_so_far chunked m ++ end_of chunked t) (kept-first chunked m)
    ∙ sym (whole-is chunked m))

-- a fact that holds whatever a call answers
pub on_ok : {T E P : Type 0} (r : Result T E) → P → OnOk r P
on_ok (Ok done) p = p
on_ok (Err failed) p = tt
