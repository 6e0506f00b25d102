-- A body in chunks of one size: whole by the grammar of chunks, and with this content.
use Rattle.std.proofs.Common.{◌≡◌, ℕ, zero, suc, ◌+◌, ◌*◌, ◌/◌, ◌<◌, ◌≤◌, true, false, List, [], ◌∷◌, ◌++◌, length, take, drop, refl, sym, ap, ◌∙◌, arith, append-nil, append_assoc, length-append, length-drop, codes}
use Rattle.std.specs.List.{list_all}
use Rattle.std.specs.Char.{is_ascii_hexdigit, digit_value}
use Rattle.std.specs.Fmt.{digits}
use Rattle.std.specs.Str.Parse.{AllDigits}
use Rattle.std.proofs.lemmas.Bool.{and_from}
use Rattle.std.proofs.lemmas.Bool.Decides.{nat_tests}
use Rattle.std.proofs.lemmas.List.{take-append-drop, length-take}
use Rattle.std.proofs.lemmas.Fmt.{digits_is_IsNumeral}
use Rattle.orb_bytes.specs.Ascii.{crlf}
use Rattle.orb_bytes.proofs.HexadecimalLemmas.{three_at_most}
use Rattle.http_exchange.specs.Marks.{Mark, bytes_of, content_of, framing, content}
use Rattle.http_exchange.specs.Chunked as tree
use Rattle.http_exchange.specs.Chunked.{SizeLine, IsSizeLine, size_of, Chunked, IsChunked, chunked_marks, IsChunkedPrefix, IsChunkedWhole}
use Rattle.http_exchange.specs.Chunks.{chunk, rest_chunk, last_chunk}
use Rattle.trial.specs.Texts.{in_chunks, chunked_text}

-- ---- sizes

is_hexadecimal : (b : ℕ) → digit_value b < 16 → is_ascii_hexdigit b ≡ true
is_hexadecimal b small = grind (arith, nat_tests)

all_hexadecimal : (text : List ℕ) → AllDigits 16 text → list_all is_ascii_hexdigit text ≡ true
all_hexadecimal [] are = refl
all_hexadecimal (b ∷ text) are = and_from _ _ (is_hexadecimal b are.0) (all_hexadecimal text are.1)

-- the line of a size
abbrev pub line_of : ℕ → SizeLine
line_of n = record { digits = digits 16 false n; ending = [] }

IsSizeLine-of : (n : ℕ) → n < 4096 → IsSizeLine (line_of n)
IsSizeLine-of n small =
    let is = digits_is_IsNumeral 16 false (omega arith) (omega arith) n (omega arith) in record {
      some = omega (arith, is.0.0);
      few = omega (arith, three_at_most n small);
      hex = all_hexadecimal (digits 16 false n) is.0.1;
      ending = refl;
    }

size_of-line : (n : ℕ) → n < 4096 → size_of (line_of n) ≡ n
size_of-line n small = (digits_is_IsNumeral 16 false (omega arith) (omega arith) n (omega arith)).1

-- ---- the tree

abbrev pub end_tree : Chunked
end_tree = tree.last (record { digits = codes "0"; ending = [] }) []

abbrev pub rest_tree : List ℕ → Chunked
rest_tree [] = end_tree
rest_tree (b ∷ bytes) = tree.chunk (line_of (length (b ∷ bytes))) (b ∷ bytes) end_tree

abbrev pub tree_of : (size count : ℕ) → List ℕ → Chunked
tree_of size zero body = rest_tree body
tree_of size (suc count) body = tree.chunk (line_of (length (take size body))) (take size body) (tree_of size count (drop size body))

end_is : IsChunked end_tree
end_is = (record { some = omega arith; few = omega arith; hex = refl; ending = refl }, refl, refl)

rest_is : (body : List ℕ) → length body < 4096 → IsChunked (rest_tree body)
rest_is [] small = end_is
rest_is (b ∷ bytes) small =
    let same = size_of-line (length (b ∷ bytes)) small in
    (IsSizeLine-of (length (b ∷ bytes)) small, omega (arith, same), sym same, end_is)

tree_is : (count : ℕ) (body : List ℕ) → count ≡ length body / 100 → IsChunked (tree_of 100 count body)
tree_is zero body is = rest_is body (omega (arith, is))
tree_is (suc count) body is =
    let n = length (take 100 body) in
    let full : n ≡ 100 = omega (arith, length-take 100 body) in
    let same = size_of-line n (omega arith) in (
      IsSizeLine-of n (omega arith),
      omega (arith, same, full),
      sym same,
      tree_is count (drop 100 body) (omega (arith, length-drop 100 body)),
    )

-- ---- its bytes

bytes-framing : (bytes : List ℕ) (rest : List Mark) → bytes_of (framing bytes rest) ≡ bytes ++ bytes_of rest
bytes-framing [] rest = refl
bytes-framing (b ∷ bytes) rest = ap (λ l. b ∷ l) (bytes-framing bytes rest)

bytes-content : (bytes : List ℕ) (rest : List Mark) → bytes_of (content bytes rest) ≡ bytes ++ bytes_of rest
bytes-content [] rest = refl
bytes-content (b ∷ bytes) rest = ap (λ l. b ∷ l) (bytes-content bytes rest)

content-framing : (bytes : List ℕ) (rest : List Mark) → content_of (framing bytes rest) ≡ content_of rest
content-framing [] rest = refl
content-framing (b ∷ bytes) rest = content-framing bytes rest

content-content : (bytes : List ℕ) (rest : List Mark) → content_of (content bytes rest) ≡ bytes ++ content_of rest
content-content [] rest = refl
content-content (b ∷ bytes) rest = ap (λ l. b ∷ l) (content-content bytes rest)

chunk_bytes : (bytes : List ℕ) (others : Chunked)
    → bytes_of (chunked_marks (tree.chunk (line_of (length bytes)) bytes others)) ≡ chunk bytes ++ bytes_of (chunked_marks others)
unfolding chunk
chunk_bytes bytes others =
    let size = digits 16 false (length bytes) in
    let rest = chunked_marks others in
    bytes-framing size (framing crlf (content bytes (framing crlf rest)))
    ∙ ap (λ l. size ++ (crlf ++ l)) (bytes-content bytes (framing crlf rest) ∙ sym (append_assoc bytes crlf (bytes_of rest)))
    ∙ sym (append_assoc size (crlf ++ (bytes ++ crlf)) (bytes_of rest))

chunk_content : (bytes : List ℕ) (others : Chunked)
    → content_of (chunked_marks (tree.chunk (line_of (length bytes)) bytes others)) ≡ bytes ++ content_of (chunked_marks others)
chunk_content bytes others =
    let size = digits 16 false (length bytes) in
    content-framing size (framing crlf (content bytes (framing crlf (chunked_marks others))))
    ∙ content-content bytes (framing crlf (chunked_marks others))

rest_bytes : (body : List ℕ) → bytes_of (chunked_marks (rest_tree body)) ≡ rest_chunk body ++ last_chunk
rest_bytes [] = refl
rest_bytes (b ∷ bytes) = chunk_bytes (b ∷ bytes) end_tree

tree_bytes : (size count : ℕ) (body : List ℕ) → bytes_of (chunked_marks (tree_of size count body)) ≡ in_chunks size count body
tree_bytes size zero body = rest_bytes body
tree_bytes size (suc count) body =
    chunk_bytes (take size body) (tree_of size count (drop size body))
    ∙ ap (λ l. chunk (take size body) ++ l) (tree_bytes size count (drop size body))

rest_content : (body : List ℕ) → content_of (chunked_marks (rest_tree body)) ≡ body
rest_content [] = refl
rest_content (b ∷ bytes) = chunk_content (b ∷ bytes) end_tree ∙ append-nil (b ∷ bytes)

tree_content : (size count : ℕ) (body : List ℕ) → content_of (chunked_marks (tree_of size count body)) ≡ body
tree_content size zero body = rest_content body
tree_content size (suc count) body =
    chunk_content (take size body) (tree_of size count (drop size body))
    ∙ ap (λ l. take size body ++ l) (tree_content size count (drop size body))
    ∙ take-append-drop size body

-- ---- as it is sent

pub sent_is_whole : (body : List ℕ) → IsChunkedWhole (chunked_text 100 body)
sent_is_whole body = record {
  body = tree_of 100 (length body / 100) body;
  good = tree_is (length body / 100) body refl;
  spells = tree_bytes 100 (length body / 100) body;
}

pub sent_is_prefix : (body : List ℕ) → IsChunkedPrefix (chunked_text 100 body) body
sent_is_prefix body =
    let tree = tree_of 100 (length body / 100) body in record {
      body = tree;
      good = tree_is (length body / 100) body refl;
      prefix = chunked_marks tree;
      rest = [];
      spells = sym (append-nil (chunked_marks tree));
      reads = tree_bytes 100 (length body / 100) body;
      gives = tree_content 100 (length body / 100) body;
    }

-- ---- and its length

pub chunk_length : (bytes : List ℕ) → length bytes < 4096 → length (chunk bytes) ≤ length bytes + 7
unfolding chunk
chunk_length bytes small =
    let size = digits 16 false (length bytes) in
    omega (
      arith,
      three_at_most (length bytes) small,
      length-append size (crlf ++ (bytes ++ crlf)),
      length-append bytes crlf,
    )

rest_length : (body : List ℕ) → length body < 4096 → length (rest_chunk body) ≤ length body + 7
rest_length [] small = omega arith
rest_length (b ∷ bytes) small = chunk_length (b ∷ bytes) small

chunks_length : (count : ℕ) (body : List ℕ) → length body < 4096 → length (in_chunks 100 count body) ≤ length body + (7 * count + 12)
chunks_length zero body small = omega (arith, length-append (rest_chunk body) last_chunk, rest_length body small)
chunks_length (suc count) body small =
    let first = take 100 body in
    let others = drop 100 body in
    omega (
      arith,
      length-append (chunk first) (in_chunks 100 count others),
      length-take 100 body,
      length-drop 100 body,
      chunk_length first (omega (arith, length-take 100 body)),
      chunks_length count others (omega (arith, length-drop 100 body)),
    )

pub sent_length : (body : List ℕ) → length body < 4096 → length (chunked_text 100 body) ≤ 20000
sent_length body small = omega (arith, chunks_length (length body / 100) body small)
