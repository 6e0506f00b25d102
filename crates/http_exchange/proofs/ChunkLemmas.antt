-- Chunks, body after body.
use Rattle.std.proofs.Common.{◌≡◌, ℕ, zero, suc, ◌+◌, ◌*◌, ◌/◌, ◌%◌, ◌<◌, ◌≤◌, List, [], ◌∷◌, ◌++◌, length, take, drop, refl, sym, ap, ◌∙◌, arith, false, append_assoc, length-append, length-drop}
use Rattle.std.proofs.lemmas.List.{take-append-le, drop-append-le, append-nil}
use Rattle.std.proofs.Math.Nat.{div-eq_of_lt, mul-add-div}
use Rattle.std.proofs.Math.Seq.{take-length, drop-length, drop-nil}
use Rattle.std.specs.Fmt.{digits}
use Rattle.orb_bytes.specs.Ascii.{crlf}
use Rattle.http_exchange.specs.Chunks.{chunk_size, chunk, full_chunks, count_full, rest_of, last_chunk}

drop_more : (a b : ℕ) (xs : List ℕ) → drop (a + b) xs ≡ drop b (drop a xs)
drop_more zero b xs = ap (λ n. drop n xs) (omega arith)
drop_more (suc a) b [] = drop-nil (suc a + b) ∙ sym (drop-nil b)
drop_more (suc a) b (x ∷ xs) = ap (λ n. drop n (x ∷ xs)) (let e : suc a + b ≡ suc (a + b) = omega arith in e) ∙ drop_more a b xs

-- the bytes of so many chunks
pub full_chunks-append : (n : ℕ) (a b : List ℕ) → 1024 * n ≤ length a → full_chunks n (a ++ b) ≡ full_chunks n a
unfolding chunk_size
full_chunks-append zero a b fits = refl
full_chunks-append (suc n) a b fits =
    let first : 1024 ≤ length a = omega arith in
    let others : 1024 * n ≤ length (drop 1024 a) = omega (arith, length-drop 1024 a) in
    rw (take-append-le 1024 a b first, drop-append-le 1024 a b first)
    (ap (λ t. chunk (take 1024 a) ++ t) (full_chunks-append n (drop 1024 a) b others))

pub full_chunks-more : (n k : ℕ) (a : List ℕ) → full_chunks (n + k) a ≡ full_chunks n a ++ full_chunks k (drop (1024 * n) a)
unfolding chunk_size
full_chunks-more zero k a = ap (λ j. full_chunks j a) (let e : zero + k ≡ k = omega arith in e)
full_chunks-more (suc n) k a =
    let same : drop (1024 * suc n) a ≡ drop (1024 * n) (drop 1024 a) =
    ap (λ j. drop j a) (let e : 1024 * suc n ≡ 1024 + 1024 * n = omega arith in e) ∙ drop_more 1024 (1024 * n) a in
    ap (λ j. full_chunks j a) (let e : suc n + k ≡ suc (n + k) = omega arith in e)
    ∙ (ap (λ t. chunk (take 1024 a) ++ t) (full_chunks-more n k (drop 1024 a))
    ∙ (sym (append_assoc (chunk (take 1024 a)) (full_chunks n (drop 1024 a)) (full_chunks k (drop (1024 * n) (drop 1024 a))))
    ∙ ap (λ t. (chunk (take 1024 a) ++ full_chunks n (drop 1024 a)) ++ full_chunks k t) (sym same)))

-- how many chunks are full, and what is left
pub full_fits : (m : List ℕ) → 1024 * count_full m ≤ length m
unfolding chunk_size
full_fits m = omega arith

pub rest-length : (m : List ℕ) → length (rest_of m) ≡ length m % 1024
unfolding chunk_size
rest-length m = omega (arith, length-drop (1024 * (length m / 1024)) m)

pub rest-short : (m : List ℕ) → length (rest_of m) < 1024
unfolding chunk_size
rest-short m = omega (arith, length-drop (1024 * (length m / 1024)) m)

-- a body read on: the bytes that fill no chunk stand before the piece
pub rest_before : (m p : List ℕ) → drop (1024 * count_full m) (m ++ p) ≡ rest_of m ++ p
unfolding chunk_size
rest_before m p = drop-append-le (1024 * count_full m) m p (full_fits m)

count_by : (n l : ℕ) → (1024 * n + l) / 1024 ≡ n + l / 1024
count_by n l = mul-add-div {m = 1024} (omega arith) n l

pub count-on : (m p : List ℕ) → count_full (m ++ p) ≡ count_full m + count_full (rest_of m ++ p)
unfolding chunk_size
count-on m p =
    ap (λ n. n / 1024)
    (let e : length (m ++ p) ≡ 1024 * (length m / 1024) + length (rest_of m ++ p) =
    omega (arith, length-append m p, length-append (rest_of m) p, length-drop (1024 * (length m / 1024)) m) in e)
    ∙ count_by (count_full m) (length (rest_of m ++ p))

pub chunks-on : (m p : List ℕ) → full_chunks (count_full (m ++ p)) (m ++ p)
    ≡ full_chunks (count_full m) m ++ full_chunks (count_full (rest_of m ++ p)) (rest_of m ++ p)
chunks-on m p =
    ap (λ n. full_chunks n (m ++ p)) (count-on m p)
    ∙ (full_chunks-more (count_full m) (count_full (rest_of m ++ p)) (m ++ p)
    ∙ (ap (λ t. t ++ full_chunks (count_full (rest_of m ++ p)) (drop (1024 * count_full m) (m ++ p)))
    (full_chunks-append (count_full m) m p (full_fits m))
    ∙ ap (λ t. full_chunks (count_full m) m ++ full_chunks (count_full (rest_of m ++ p)) t) (rest_before m p)))

pub rest-on : (m p : List ℕ) → rest_of (m ++ p) ≡ rest_of (rest_of m ++ p)
unfolding chunk_size
rest-on m p =
    ap (λ n. drop n (m ++ p))
    (let e : 1024 * count_full (m ++ p) ≡ 1024 * count_full m + 1024 * count_full (rest_of m ++ p) =
    omega (arith, count-on m p) in e)
    ∙ (drop_more (1024 * count_full m) (1024 * count_full (rest_of m ++ p)) (m ++ p)
    ∙ ap (drop (1024 * count_full (rest_of m ++ p))) (rest_before m p))

-- fewer bytes than a chunk has
pub count-short : (m : List ℕ) → length m < 1024 → count_full m ≡ 0
unfolding chunk_size
count-short m short = div-eq_of_lt short

pub chunks-short : (m : List ℕ) → length m < 1024 → full_chunks (count_full m) m ≡ []
chunks-short m short = ap (λ n. full_chunks n m) (count-short m short)

pub rest-whole : (m : List ℕ) → length m < 1024 → rest_of m ≡ m
unfolding chunk_size
rest-whole m short = ap (λ n. drop (1024 * n) m) (count-short m short)

-- as many
one_full : (n : ℕ) → n ≡ 1024 → n / 1024 ≡ 1
one_full n is = ap (λ k. k / 1024) is

pub chunks-one : (m : List ℕ) → length m ≡ 1024 → full_chunks (count_full m) m ≡ chunk m
unfolding chunk_size
chunks-one m is =
    ap (λ n. full_chunks n m) (one_full (length m) is)
    ∙ (ap (λ n. chunk (take n m) ++ []) (sym is) ∙ (ap (λ t. chunk t ++ []) (take-length m) ∙ append-nil (chunk m)))

pub rest-none : (m : List ℕ) → length m ≡ 1024 → rest_of m ≡ []
unfolding chunk_size
rest-none m is =
    ap (λ n. drop (1024 * n) m) (one_full (length m) is) ∙ (ap (λ n. drop n m) (sym is) ∙ drop-length m)

-- how a chunk is put together
size_line : digits 16 false 1024 ≡ 52 ∷ 48 ∷ 48 ∷ []
unfolding digits
size_line = refl

chunk-full : (prefix back : List ℕ) → length prefix + length back ≡ 1024
    → (((52 ∷ 48 ∷ 48 ∷ 13 ∷ 10 ∷ []) ++ prefix) ++ back) ++ (13 ∷ 10 ∷ []) ≡ chunk (prefix ++ back)
unfolding chunk
chunk-full prefix back full =
    ap (λ d. d ++ (crlf ++ ((prefix ++ back) ++ crlf)))
    (sym (ap (digits 16 false) (length-append prefix back ∙ full) ∙ size_line))

-- the same, part after part
pub chunk-parts : (prefix back : List ℕ) → length prefix + length back ≡ 1024
    → (52 ∷ 48 ∷ 48 ∷ 13 ∷ 10 ∷ []) ++ (prefix ++ (back ++ (13 ∷ 10 ∷ []))) ≡ chunk (prefix ++ back)
chunk-parts prefix back full =
    ap (λ t. (52 ∷ 48 ∷ 48 ∷ 13 ∷ 10 ∷ []) ++ t) (sym (append_assoc prefix back (13 ∷ 10 ∷ []))) ∙ chunk-full prefix back full

after : (text line prefix back end : List ℕ)
    → (((text ++ line) ++ prefix) ++ back) ++ end ≡ text ++ (((line ++ prefix) ++ back) ++ end)
after text line prefix back end = simp append_assoc

pub chunk-after : (text prefix back : List ℕ) → length prefix + length back ≡ 1024
    → (((text ++ (52 ∷ 48 ∷ 48 ∷ 13 ∷ 10 ∷ [])) ++ prefix) ++ back) ++ (13 ∷ 10 ∷ []) ≡ text ++ chunk (prefix ++ back)
chunk-after text prefix back full =
    after text (52 ∷ 48 ∷ 48 ∷ 13 ∷ 10 ∷ []) prefix back (13 ∷ 10 ∷ []) ∙ ap (λ t. text ++ t) (chunk-full prefix back full)

pub chunk-some : (bytes : List ℕ) → 0 < length (chunk bytes)
unfolding chunk
chunk-some bytes =
    omega (arith, length-append (digits 16 false (length bytes)) (crlf ++ (bytes ++ crlf)))

pub chunk-last : (rest : List ℕ)
    → ((digits 16 false (length rest) ++ (13 ∷ 10 ∷ [])) ++ rest) ++ (13 ∷ 10 ∷ 48 ∷ 13 ∷ 10 ∷ 13 ∷ 10 ∷ []) ≡ chunk rest ++ last_chunk
unfolding chunk
chunk-last rest = simp append_assoc
