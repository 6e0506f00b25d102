-- Reading one character at the beginning, and then the rest.
use Rattle.std.proofs.Common.{◌≡◌, ℕ, zero, suc, ◌+◌, ◌-◌, ◌<◌, length, List, [], ◌∷◌, ◌++◌, drop, Some, refl, sym, ap, ◌∙◌, arith, append_assoc, append-nil, add-one, encode_utf8, encode_utf8_all, length-append}
use Rattle.std.proofs.lemmas.Bool.{and_parts}
use Rattle.std.proofs.lemmas.Bool.Decides.{nat_tests}
use Rattle.std.proofs.lemmas.List.{drop_at}
use Rattle.std.proofs.lemmas.Str.{length-encode}
use Rattle.std.specs.Char.{len_utf8}
use lib.Utf8.{scalar, scalars}
use Rattle.bstr.specs.Utf8.{Decoded, decoded, good, or_replacement}
use Rattle.bstr.proofs.lemmas.EncodeLemmas.{decoded-encode}
use Rattle.bstr.proofs.lemmas.PieceLemmas.{piece-bounds}
use Rattle.text_stream.specs.Decoding.{further_bytes, further_bytes_of, characters_after, ReadsAsWritten}

-- a sequence has its first byte and the further ones
pub size-of_sequence : (bytes : List ℕ) (c : ℕ) → 0 < length bytes → (decoded bytes).char ≡ Some c → (decoded bytes).size ≡ further_bytes (decoded bytes) + 1
size-of_sequence bytes c some is =
    let bounds = piece-bounds bytes some in
    let further : further_bytes (decoded bytes) ≡ (decoded bytes).size - 1 = ap (λ o. further_bytes_of o (decoded bytes).size) is in
    omega (arith, bounds.0, further)

pub characters_after-drop : (n : ℕ) (bytes : List ℕ) → characters_after n bytes ≡ characters_after 0 (drop n bytes)
unfolding characters_after
characters_after-drop zero [] = refl
characters_after-drop (suc n) [] = refl
characters_after-drop zero (b ∷ bytes) = refl
characters_after-drop (suc n) (b ∷ bytes) = characters_after-drop n bytes

-- the first character, and those of what is after its bytes
pub characters_after-first : (bytes : List ℕ) → 0 < length bytes → characters_after 0 bytes ≡ or_replacement (decoded bytes).char ∷ characters_after 0 (drop (suc (further_bytes (decoded bytes))) bytes)
unfolding characters_after
characters_after-first [] some = absurd (omega arith)
characters_after-first (b ∷ bytes) some =
    ap (λ text. or_replacement (decoded (b ∷ bytes)).char ∷ text) (characters_after-drop (further_bytes (decoded (b ∷ bytes))) bytes)

-- one character more is read
pub reads_on : (read whole bytes : List ℕ) (c size : ℕ) → 0 < length bytes → c ≡ or_replacement (decoded bytes).char → size ≡ further_bytes (decoded bytes) + 1 → read ++ characters_after 0 bytes ≡ whole → (read ++ (c ∷ [])) ++ characters_after 0 (drop size bytes) ≡ whole
reads_on read whole bytes c size some is_first takes so_far =
    let first : c ∷ characters_after 0 (drop size bytes) ≡ characters_after 0 bytes =
    rw (is_first, takes, add-one) (sym (characters_after-first bytes some)) in
    append_assoc read (c ∷ []) (characters_after 0 (drop size bytes)) ∙ ap (λ text. read ++ text) first ∙ so_far

-- all is read
pub all_read : (read whole bytes : List ℕ) → length bytes ≡ 0 → read ++ characters_after 0 bytes ≡ whole → read ≡ whole
unfolding characters_after
all_read read whole [] none so_far = sym (append-nil read) ∙ so_far
all_read read whole (b ∷ bytes) none so_far = absurd (omega arith)

encode_utf8-some : (c : ℕ) → 0 < length (encode_utf8 c)
encode_utf8-some c = rw (length-encode c) (len_utf8-some c)
  where
    len_utf8-some : (n : ℕ) → 0 < len_utf8 n
    len_utf8-some n = grind (arith, nat_tests)

-- what is written as UTF-8 is read
pub text-read : (text bytes : List ℕ) → ReadsAsWritten text bytes
text-read [] bytes all = refl
text-read (c ∷ text) bytes all =
    let both = and_parts (scalar c) (scalars text) all in
    let first = encode_utf8 c in
    let later = encode_utf8_all text ++ bytes in
    let whole = first ++ later in
    let some : 0 < length whole = omega (arith, encode_utf8-some c, length-append first later) in
    let is : decoded whole ≡ good c (length first) = decoded-encode c later both.0 in
    let size : suc (further_bytes (decoded whole)) ≡ length first =
    omega (arith, ap further_bytes is, encode_utf8-some c) in
    ap (characters_after 0) (append_assoc first (encode_utf8_all text) bytes) ∙ characters_after-first whole some
    ∙ ap (λ (d : Decoded). or_replacement d.char ∷ characters_after 0 (drop (suc (further_bytes (decoded whole))) whole)) is
    ∙ ap (λ t. c ∷ characters_after 0 t) (drop_at first later _ (sym size))
    ∙ ap (λ t. c ∷ t) (text-read text bytes both.1)
