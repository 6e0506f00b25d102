-- What goes out of a longer body, and how much.
use Rattle.std.proofs.Common.{◌≡◌, ℕ, zero, suc, ◌+◌, ◌*◌, ◌<◌, ◌≤◌, Bool, true, false, List, [], ◌∷◌, ◌++◌, length, take, drop, refl, arith, length-append, length-drop}
use Rattle.std.proofs.lemmas.List.{length-take-le}
use Rattle.std.specs.Fmt.{digits}
use Rattle.orb_io.specs.Told.{IsPrefix}
use Rattle.orb_io.proofs.ToldLemmas.{IsPrefix-none, IsPrefix-append, IsPrefix-after}
use Rattle.response_rules.specs.Rules.{is_allowing}
use Rattle.response_rules.specs.Tables.{rule_of}
use Rattle.response_rules.specs.Settled.{is_sent}
use Rattle.response_rules.proofs.SettledLemmas.{sent-longer, sent-allows}
use Rattle.orb_bytes.specs.Ascii.{crlf}
use Rattle.http_exchange.specs.Chunks.{chunk_size, chunk, full_chunks, count_full, rest_of, rest_chunk, last_chunk, body_so_far, whole_body, kept_of}
use Rattle.http_exchange.specs.Framing.{put_of, end_of}
use Rattle.body_filter.specs.Reply.{reply_of}
use Rattle.body_filter.specs.Responses.{Response, output_so_far, whole_output}
use Rattle.orb_bytes.proofs.HexadecimalLemmas.{three_at_most}
use Rattle.body_filter.proofs.ReplyLemmas.{reply-short}
use Rattle.http_exchange.proofs.ChunkLemmas.{full_fits, rest-length, rest-short}
use Rattle.http_exchange.proofs.FramingLaws.{prefix-on, whole-is}
use Rattle.body_filter.proofs.FilterLemmas.{so_far-unsent, so_far-sent}

-- a body that goes out, and a longer one
body-grows : (chunked : Bool) (m p : List ℕ) → IsPrefix (body_so_far chunked m) (body_so_far chunked (m ++ p))
body-grows chunked m p = (put_of chunked (kept_of chunked m) p, prefix-on chunked m p)

pub prefix-grows : (x : Response) (m more : List ℕ) → IsPrefix (output_so_far x m) (output_so_far x (m ++ more))
prefix-grows x m more = by (is_sent x.judged m) refl
  where
    by : (b : Bool) → is_sent x.judged m ≡ b → IsPrefix (output_so_far x m) (output_so_far x (m ++ more))
    by false unsent = rw (so_far-unsent x m unsent) (IsPrefix-none (output_so_far x (m ++ more)))
    by true sent =
        rw (so_far-sent x m sent, so_far-sent x (m ++ more) (sent-longer x.judged m more sent))
        (IsPrefix-after x.bytes (body_so_far x.chunked m) (body_so_far x.chunked (m ++ more)) (body-grows x.chunked m more))

-- a whole exchange, by whether its rule allows
pub whole-allowed : (x : Response) (m : List ℕ) → is_allowing (rule_of x.judged m) ≡ true → whole_output x m ≡ x.bytes ++ whole_body x.chunked m
unfolding whole_output
whole-allowed x m allows = rw allows refl

pub whole-blocked : (x : Response) (m : List ℕ) → is_allowing (rule_of x.judged m) ≡ false → whole_output x m ≡ reply_of (rule_of x.judged m)
unfolding whole_output
whole-blocked x m blocks = rw blocks refl

pub prefix-whole_now : (x : Response) (m : List ℕ) → IsPrefix (output_so_far x m) (whole_output x m)
prefix-whole_now x m = by (is_sent x.judged m) refl
  where
    by : (b : Bool) → is_sent x.judged m ≡ b → IsPrefix (output_so_far x m) (whole_output x m)
    by false unsent = rw (so_far-unsent x m unsent) (IsPrefix-none (whole_output x m))
    by true sent =
        rw (so_far-sent x m sent, whole-allowed x m (sent-allows x.judged m sent), whole-is x.chunked m)
        (IsPrefix-after x.bytes (body_so_far x.chunked m) (body_so_far x.chunked m ++ end_of x.chunked (kept_of x.chunked m))
        (IsPrefix-append (body_so_far x.chunked m) (end_of x.chunked (kept_of x.chunked m))))

-- how much goes out
chunk-length : (b : List ℕ) → length b < 4096 → length (chunk b) ≤ length b + 7
unfolding chunk
chunk-length b small =
    omega (arith, three_at_most (length b) small, length-append (digits 16 false (length b)) (crlf ++ (b ++ crlf)), length-append b crlf)

full-length : (n : ℕ) (a : List ℕ) → 1024 * n ≤ length a → length (full_chunks n a) ≤ 1031 * n
unfolding chunk_size
full-length zero a fits = omega arith
full-length (suc n) a fits =
    let first : length (take 1024 a) ≡ 1024 = length-take-le 1024 a (omega arith) in
    let others : 1024 * n ≤ length (drop 1024 a) = omega (arith, length-drop 1024 a) in
    omega (
      arith,
      length-append (chunk (take 1024 a)) (full_chunks n (drop 1024 a)),
      chunk-length (take 1024 a) (omega arith),
      full-length n (drop 1024 a) others,
    )

body-length : (chunked : Bool) (m : List ℕ) → length (body_so_far chunked m) ≤ 2 * length m
unfolding body_so_far chunk_size
body-length true m = omega (arith, full-length (count_full m) m (full_fits m), full_fits m)
body-length false m = omega arith

rest-short_chunk : (rest : List ℕ) → length rest < 1024 → length (rest_chunk rest) ≤ length rest + 7
rest-short_chunk [] short = omega arith
rest-short_chunk (b ∷ rest) short = chunk-length (b ∷ rest) (omega arith)

whole-length : (chunked : Bool) (m : List ℕ) → length (whole_body chunked m) ≤ 2 * length m + 128
unfolding whole_body chunk_size
whole-length true m =
    omega (
      arith,
      length-append (full_chunks (count_full m) m) (rest_chunk (rest_of m) ++ last_chunk),
      length-append (rest_chunk (rest_of m)) last_chunk,
      rest-short_chunk (rest_of m) (rest-short m),
      full-length (count_full m) m (full_fits m),
      full_fits m,
      rest-length m,
    )
whole-length false m = omega arith

-- what a piece fills of chunks
put-length : (chunked : Bool) (kept p : List ℕ) → length (put_of chunked kept p) ≤ 2 * (length kept + length p)
unfolding put_of chunk_size
put-length true kept p =
    omega (arith, full-length (count_full (kept ++ p)) (kept ++ p) (full_fits (kept ++ p)), full_fits (kept ++ p), length-append kept p)
put-length false kept p = omega arith

-- what ends a body
end-length : (chunked : Bool) (m : List ℕ) → length (end_of chunked (kept_of chunked m)) ≤ 2 * length (kept_of chunked m) + 128
unfolding end_of kept_of chunk_size
end-length true m =
    omega (arith, length-append (rest_chunk (rest_of m)) last_chunk, rest-short_chunk (rest_of m) (rest-short m))
end-length false m = omega arith

-- of a body that goes out, what a further piece lets out, and the end
pub sent-feeds : (x : Response) (m p : List ℕ) → is_sent x.judged m ≡ true
    → length (output_so_far x (m ++ p)) ≤ length (output_so_far x m) + 2 * (length (kept_of x.chunked m) + length p)
sent-feeds x m p sent =
    let more = put_of x.chunked (kept_of x.chunked m) p in
    let body = body_so_far x.chunked m in
    rw (so_far-sent x m sent, so_far-sent x (m ++ p) (sent-longer x.judged m p sent), prefix-on x.chunked m p)
    (omega (arith, length-append x.bytes body, length-append x.bytes (body ++ more), length-append body more, put-length x.chunked (kept_of x.chunked m) p))

pub sent-ends : (x : Response) (m : List ℕ) → is_sent x.judged m ≡ true
    → length (whole_output x m) ≤ length (output_so_far x m) + 2 * length (kept_of x.chunked m) + 128
sent-ends x m sent =
    let end = end_of x.chunked (kept_of x.chunked m) in
    let body = body_so_far x.chunked m in
    rw (so_far-sent x m sent, whole-allowed x m (sent-allows x.judged m sent), whole-is x.chunked m)
    (omega (arith, length-append x.bytes body, length-append x.bytes (body ++ end), length-append body end, end-length x.chunked m))

pub so_far-length : (x : Response) (m : List ℕ) → length (output_so_far x m) ≤ length x.bytes + 2 * length m
so_far-length x m = by (is_sent x.judged m) refl
  where
    by : (b : Bool) → is_sent x.judged m ≡ b → length (output_so_far x m) ≤ length x.bytes + 2 * length m
    by false unsent = rw (so_far-unsent x m unsent) (omega arith)
    by true sent =
        rw (so_far-sent x m sent) (omega (arith, length-append x.bytes (body_so_far x.chunked m), body-length x.chunked m))

pub output-length : (x : Response) (m : List ℕ) → length (whole_output x m) ≤ length x.bytes + 2 * length m + 128
output-length x m = by (is_allowing (rule_of x.judged m)) refl
  where
    by : (b : Bool) → is_allowing (rule_of x.judged m) ≡ b → length (whole_output x m) ≤ length x.bytes + 2 * length m + 128
    by true allows =
        rw (whole-allowed x m allows) (omega (arith, length-append x.bytes (whole_body x.chunked m), whole-length x.chunked m))
    by false blocks = rw (whole-blocked x m blocks) (omega (arith, reply-short (rule_of x.judged m)))
