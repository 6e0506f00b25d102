-- Bytes one after the other: when a character is settled, and what a byte order mark changes.
use Rattle.std.proofs.Common.{◌≡◌, ◌≢◌, ℕ, zero, suc, ◌+◌, ◌-◌, ◌<◌, ◌≤◌, Bool, true, false, not, cond, ◌&&◌, ◌==◌, nat_lt, nat_eq, List, [], ◌∷◌, ◌++◌, length, drop, slice_index, Some, None, Option, ◌⊎◌, inl, inr, ⊎_elim, subst, refl, sym, ap, ◌∙◌, append_assoc, length-append, length-drop, arith}
use Rattle.std.specs.List.{starts_with}
use Rattle.std.proofs.lemmas.Bool.{cases_lt, and_parts, eqb-true, false_from_ne_true}
use Rattle.std.proofs.lemmas.Bool.Decides.{nat_tests}
use Rattle.std.proofs.lemmas.List.{drop-append-le, get_or_append_left}
use Rattle.bstr.proofs.lemmas.PieceLemmas.{piece-bounds, tail-continues, decoded_by-cut}
use Rattle.bstr.specs.Utf8.{Decoded, decoded, decoded_by, bad, good, second, continues, code_of_2, code_of_3, or_replacement}
use Rattle.text_stream.specs.Decoding.{further_bytes, further_bytes_of, characters_after, characters_of, byte_order_mark}
use Rattle.text_stream.specs.declared.decoder.Stage.{Stage}
use Rattle.text_stream.specs.declared.decoder.Stage.TheVariants.{Start, Within, Finished}
use Rattle.text_stream.specs.declared.decoder.Decoder.{Decoder}
use Rattle.text_stream.specs.Decoder.{HasRead, PassesAscii, PassesText, GivesAllButThree, ahead_at, pending_at, is_pending}
use Rattle.text_stream.specs.DecoderStages.{most_pending}
use Rattle.text_stream.proofs.DecodingLemmas.{characters_after-first}

-- ---- what is settled by some bytes, whatever follows

pick_1 : (t80 tc2 tf4 : Bool) (g rest : Decoded) (v : ℕ) → (cond t80 g (cond tc2 (bad 1) (cond tf4 (bad 1) (bad 1)))).char ≡ Some v
    → cond t80 g (cond tc2 (bad 1) (cond tf4 (bad 1) rest)) ≡ cond t80 g (cond tc2 (bad 1) (cond tf4 (bad 1) (bad 1)))
pick_1 true tc2 tf4 g rest v is = refl
pick_1 false true tf4 g rest v is = refl
pick_1 false false true g rest v is = refl
pick_1 false false false g rest v is = absurd (cc)

pick_2 : (t80 tc2 tf4 sec te0 : Bool) (g two rest : Decoded) (v : ℕ)
    → (cond t80 g (cond tc2 (bad 1) (cond tf4 (bad 1) (cond sec (cond te0 two (bad 2)) (bad 1))))).char ≡ Some v
    → cond t80 g (cond tc2 (bad 1) (cond tf4 (bad 1) (cond sec (cond te0 two rest) (bad 1))))
    ≡ cond t80 g (cond tc2 (bad 1) (cond tf4 (bad 1) (cond sec (cond te0 two (bad 2)) (bad 1))))
pick_2 true tc2 tf4 sec te0 g two rest v is = refl
pick_2 false true tf4 sec te0 g two rest v is = refl
pick_2 false false true sec te0 g two rest v is = refl
pick_2 false false false false te0 g two rest v is = refl
pick_2 false false false true true g two rest v is = refl
pick_2 false false false true false g two rest v is = absurd (cc)

pick_3 : (t80 tc2 tf4 sec te0 cd tf0 : Bool) (g two three rest : Decoded) (v : ℕ)
    → (cond t80 g (cond tc2 (bad 1) (cond tf4 (bad 1) (cond sec (cond te0 two (cond cd (cond tf0 three (bad 3)) (bad 2))) (bad 1))))).char ≡ Some v
    → cond t80 g (cond tc2 (bad 1) (cond tf4 (bad 1) (cond sec (cond te0 two (cond cd (cond tf0 three rest) (bad 2))) (bad 1))))
    ≡ cond t80 g (cond tc2 (bad 1) (cond tf4 (bad 1) (cond sec (cond te0 two (cond cd (cond tf0 three (bad 3)) (bad 2))) (bad 1))))
pick_3 true tc2 tf4 sec te0 cd tf0 g two three rest v is = refl
pick_3 false true tf4 sec te0 cd tf0 g two three rest v is = refl
pick_3 false false true sec te0 cd tf0 g two three rest v is = refl
pick_3 false false false false te0 cd tf0 g two three rest v is = refl
pick_3 false false false true true cd tf0 g two three rest v is = refl
pick_3 false false false true false false tf0 g two three rest v is = refl
pick_3 false false false true false true true g two three rest v is = refl
pick_3 false false false true false true false g two three rest v is = absurd (cc)

one_byte : (k a x y z v : ℕ) → (decoded_by 1 a 0 0 0).char ≡ Some v → decoded_by (suc k) a x y z ≡ decoded_by 1 a 0 0 0
one_byte k a x y z v is =
    let some : (suc k == 0) ≡ false = grind (arith, nat_tests) in
    rw some (pick_1 (nat_lt a 0x80) (nat_lt a 0xC2) (nat_lt 0xF4 a) (good a 1) _ v is)

two_bytes : (k a b y z v : ℕ) → (decoded_by 2 a b 0 0).char ≡ Some v → decoded_by (suc (suc k)) a b y z ≡ decoded_by 2 a b 0 0
two_bytes k a b y z v is =
    let some : (suc (suc k) == 0) ≡ false = grind (arith, nat_tests) in
    let two : nat_lt (suc (suc k)) 2 ≡ false = grind (arith, nat_tests) in
    rw (some, two) (pick_2 (nat_lt a 0x80) (nat_lt a 0xC2) (nat_lt 0xF4 a) (second a b) (nat_lt a 0xE0) (good a 1) (good (code_of_2 a b) 2) _ v is)

three_bytes : (k a b c z v : ℕ) → (decoded_by 3 a b c 0).char ≡ Some v → decoded_by (suc (suc (suc k))) a b c z ≡ decoded_by 3 a b c 0
three_bytes k a b c z v is =
    let some : (suc (suc (suc k)) == 0) ≡ false = grind (arith, nat_tests) in
    let two : nat_lt (suc (suc (suc k))) 2 ≡ false = grind (arith, nat_tests) in
    let three : nat_lt (suc (suc (suc k))) 3 ≡ false = grind (arith, nat_tests) in
    rw (some, two, three) (pick_3 (nat_lt a 0x80) (nat_lt a 0xC2) (nat_lt 0xF4 a) (second a b) (nat_lt a 0xE0) (continues c) (nat_lt a 0xF0)
    (good a 1) (good (code_of_2 a b) 2) (good (code_of_3 a b c) 3) _ v is)

four_bytes : (k a b c d : ℕ) → decoded_by (suc (suc (suc (suc k)))) a b c d ≡ decoded_by 4 a b c d
four_bytes k a b c d =
    let some : (suc (suc (suc (suc k))) == 0) ≡ false = grind (arith, nat_tests) in
    let two : nat_lt (suc (suc (suc (suc k)))) 2 ≡ false = grind (arith, nat_tests) in
    let three : nat_lt (suc (suc (suc (suc k)))) 3 ≡ false = grind (arith, nat_tests) in
    let four : nat_lt (suc (suc (suc (suc k)))) 4 ≡ false = grind (arith, nat_tests) in
    rw (some, two, three, four) refl

-- a character hangs on its own bytes alone, and four bytes settle what stands at their beginning
pub settled_some : (bytes more : List ℕ) (v : ℕ) → length bytes ≤ 4 → (decoded bytes).char ≡ Some v → decoded (bytes ++ more) ≡ decoded bytes
settled_some [] more v few is = absurd (cc)
settled_some (a ∷ []) more v few is = one_byte (length more) a (slice_index more 0) (slice_index more 1) (slice_index more 2) v is
settled_some (a ∷ b ∷ []) more v few is = two_bytes (length more) a b (slice_index more 0) (slice_index more 1) v is
settled_some (a ∷ b ∷ c ∷ []) more v few is = three_bytes (length more) a b c (slice_index more 0) v is
settled_some (a ∷ b ∷ c ∷ d ∷ []) more v few is = four_bytes (length more) a b c d
settled_some (a ∷ b ∷ c ∷ d ∷ e ∷ bytes) more v few is = absurd (omega arith)

pub settled_four : (bytes more : List ℕ) → length bytes ≡ 4 → decoded (bytes ++ more) ≡ decoded bytes
settled_four [] more four = absurd (omega arith)
settled_four (a ∷ []) more four = absurd (omega arith)
settled_four (a ∷ b ∷ []) more four = absurd (omega arith)
settled_four (a ∷ b ∷ c ∷ []) more four = absurd (omega arith)
settled_four (a ∷ b ∷ c ∷ d ∷ []) more four = four_bytes (length more) a b c d
settled_four (a ∷ b ∷ c ∷ d ∷ e ∷ bytes) more four = absurd (omega arith)

-- the character at the beginning, once it is settled
pub settled_first : (bytes more : List ℕ) (c size : ℕ) → 0 < length bytes → c ≡ or_replacement (decoded bytes).char
    → size ≡ further_bytes (decoded bytes) + 1 → size ≤ length bytes → decoded (bytes ++ more) ≡ decoded bytes
    → characters_after 0 (bytes ++ more) ≡ c ∷ characters_after 0 (drop size bytes ++ more)
settled_first bytes more c size some is takes within settled =
    let whole : 0 < length (bytes ++ more) = omega (arith, length-append bytes more) in
    let after : suc (further_bytes (decoded (bytes ++ more))) ≡ size = omega (arith, takes, ap further_bytes settled) in
    characters_after-first (bytes ++ more) whole
    ∙ ap (λ d. or_replacement d.char ∷ characters_after 0 (drop (suc (further_bytes (decoded (bytes ++ more)))) (bytes ++ more))) settled
    ∙ ap (λ x. x ∷ characters_after 0 (drop (suc (further_bytes (decoded (bytes ++ more)))) (bytes ++ more))) (sym is)
    ∙ ap (λ n. c ∷ characters_after 0 (drop n (bytes ++ more))) after
    ∙ ap (λ t. c ∷ characters_after 0 t) (drop-append-le size bytes more within)

-- ---- the byte order mark

pub mark_off : (more : List ℕ) → characters_of (byte_order_mark ++ more) ≡ characters_after 0 more
unfolding characters_of
mark_off more = refl

starts_cut : (name text : List ℕ) → starts_with nat_eq text name ≡ true → (rest : List ℕ) × (text ≡ name ++ rest)
starts_cut [] text is = (text, refl)
starts_cut (n ∷ name) [] is = absurd (cc)
starts_cut (n ∷ name) (b ∷ text) is =
    let parts = and_parts (n == b) (starts_with nat_eq text name) is in
    let more = starts_cut name text parts.1 in
    (more.0, ap (λ x. x ∷ text) (sym (eqb-true n b parts.0)) ∙ ap (λ t. n ∷ t) more.1)

-- bytes that don't begin the mark are no mark with what follows
not_mark : (bytes more : List ℕ) → starts_with nat_eq byte_order_mark bytes ≡ false → length bytes ≤ 3
    → starts_with nat_eq (bytes ++ more) byte_order_mark ≡ false
not_mark bytes more other few =
    false_from_ne_true (starts_with nat_eq (bytes ++ more) byte_order_mark)
    (λ is. let cut = starts_cut byte_order_mark (bytes ++ more) is in begins bytes cut.0 other few cut.1) where
      begins : (bytes rest : List ℕ) → starts_with nat_eq byte_order_mark bytes ≡ false → length bytes ≤ 3
          → bytes ++ more ≡ byte_order_mark ++ rest → ⊥
      begins [] rest other few same = absurd (cc)
      begins (a ∷ []) rest other few same =
          let first : a ≡ 0xEF = cc in
          let lie : starts_with nat_eq byte_order_mark (a ∷ []) ≡ true = ap (λ x. starts_with nat_eq byte_order_mark (x ∷ [])) first in
          absurd (cc)
      begins (a ∷ b ∷ []) rest other few same =
          let first : a ≡ 0xEF = cc in
          let next : b ≡ 0xBB = cc in
          let lie : starts_with nat_eq byte_order_mark (a ∷ b ∷ []) ≡ true =
          ap (λ x. starts_with nat_eq byte_order_mark (x ∷ b ∷ [])) first ∙ ap (λ x. starts_with nat_eq byte_order_mark (0xEF ∷ x ∷ [])) next in
          absurd (cc)
      begins (a ∷ b ∷ c ∷ []) rest other few same =
          let first : a ≡ 0xEF = cc in
          let next : b ≡ 0xBB = cc in
          let last : c ≡ 0xBF = cc in
          let lie : starts_with nat_eq byte_order_mark (a ∷ b ∷ c ∷ []) ≡ true =
          ap (λ x. starts_with nat_eq byte_order_mark (x ∷ b ∷ c ∷ [])) first
          ∙ ap (λ x. starts_with nat_eq byte_order_mark (0xEF ∷ x ∷ c ∷ [])) next
          ∙ ap (λ x. starts_with nat_eq byte_order_mark (0xEF ∷ 0xBB ∷ x ∷ [])) last in
          absurd (cc)
      begins (a ∷ b ∷ c ∷ d ∷ bytes) rest other few same = absurd (omega arith)

pub no_mark : (bytes more : List ℕ) → starts_with nat_eq byte_order_mark bytes ≡ false → length bytes ≤ 3
    → characters_of (bytes ++ more) ≡ characters_after 0 (bytes ++ more)
unfolding characters_of
no_mark bytes more other few = rw (not_mark bytes more other few) refl

-- fewer than three bytes are no mark
pub few_no_mark : (bytes : List ℕ) → length bytes ≤ 2 → characters_of bytes ≡ characters_after 0 bytes
unfolding characters_of
few_no_mark [] few = refl
few_no_mark (a ∷ []) few = rw (never (0xEF == a)) refl where
  never : (v : Bool) → (v && false) ≡ false
  never true = refl
  never false = refl
few_no_mark (a ∷ b ∷ []) few = rw (never (0xEF == a) (0xBB == b)) refl where
  never : (v w : Bool) → (v && (w && false)) ≡ false
  never true true = refl
  never true false = refl
  never false w = refl
few_no_mark (a ∷ b ∷ c ∷ bytes) few = absurd (omega arith)

-- where a character stands there are bytes
pub some_bytes : (bytes : List ℕ) (v : ℕ) → (decoded bytes).char ≡ Some v → 0 < length bytes
some_bytes [] v is = absurd (cc)
some_bytes (b ∷ bytes) v is = omega arith

-- ---- decoders

-- a byte below 128 is its character
ascii_first : (b : ℕ) (more : List ℕ) → b < 128 → characters_after 0 (b ∷ more) ≡ b ∷ characters_after 0 more
ascii_first b more ascii =
    let low : nat_lt b 0x80 ≡ true = grind (arith, nat_tests) in
    let is : decoded (b ∷ []) ≡ good b 1 = rw low refl in
    settled_first (b ∷ []) more b 1 (omega arith) (sym (ap (λ d. or_replacement d.char) is)) (sym (ap (λ d. further_bytes d + 1) is)) (omega arith)
    (settled_some (b ∷ []) more b (omega arith) (ap (λ d. d.char) is))

pub passes_ascii : (decoder : Decoder) → decoder.stage ≡ Within → decoder.pending.items ≡ [] → PassesAscii decoder
passes_ascii decoder within none bytes given b ascii h = record {
  can = h.can;
  gives = λ more.
      ap characters_of (append_assoc bytes (b ∷ []) more)
      ∙ h.gives (b ∷ more)
      ∙ ap (λ s. given ++ ahead_at s (decoder.pending.items ++ b ∷ more)) within
      ∙ ap (λ p. given ++ characters_after 0 (p ++ b ∷ more)) none
      ∙ ap (λ t. given ++ t) (ascii_first b more ascii)
      ∙ sym (append_assoc given (b ∷ []) (characters_after 0 more))
      ∙ ap (λ p. (given ++ b ∷ []) ++ characters_after 0 (p ++ more)) (sym none)
      ∙ ap (λ s. (given ++ b ∷ []) ++ ahead_at s (decoder.pending.items ++ more)) (sym within);
}

-- ---- bytes before one below 128

-- no sequence goes on by such a byte
ends_before : (xs more : List ℕ) (b : ℕ) → 0 < length xs → b < 128 → (decoded (xs ++ b ∷ more)).size ≤ length xs
ends_before xs more b some ascii = ⊎_elim (λ over. absurd (no_further xs some over)) (λ within. within) (cases_lt (length xs) (decoded (xs ++ b ∷ more)).size)
  where
    other : continues b ≡ false
    other = grind (arith, nat_tests)

    further : (bs : List ℕ) → (2 ≤ (decoded bs).size → continues (slice_index bs 1) ≡ true)
        × (3 ≤ (decoded bs).size → continues (slice_index bs 2) ≡ true) × (4 ≤ (decoded bs).size → continues (slice_index bs 3) ≡ true)
    further bs = tail-continues (length bs) (slice_index bs 0) (slice_index bs 1) (slice_index bs 2) (slice_index bs 3)

    no_further : (xs : List ℕ) → 0 < length xs → length xs < (decoded (xs ++ b ∷ more)).size → ⊥
    no_further [] some over = omega arith
    no_further (x ∷ []) some over = let lie : true ≡ false = sym ((further (x ∷ b ∷ more)).0 (omega arith)) ∙ other in absurd (cc)
    no_further (x ∷ y ∷ []) some over = let lie : true ≡ false = sym ((further (x ∷ y ∷ b ∷ more)).1 (omega arith)) ∙ other in absurd (cc)
    no_further (x ∷ y ∷ z ∷ []) some over = let lie : true ≡ false = sym ((further (x ∷ y ∷ z ∷ b ∷ more)).2 (omega arith)) ∙ other in absurd (cc)
    no_further (w ∷ x ∷ y ∷ z ∷ xs) some over =
        let most = piece-bounds (w ∷ x ∷ y ∷ z ∷ (xs ++ b ∷ more)) (omega arith) in omega (arith, most.1)

-- so what stands there decodes by itself
decodes_alone : (xs more : List ℕ) (b : ℕ) → 0 < length xs → b < 128 → decoded xs ≡ decoded (xs ++ b ∷ more)
decodes_alone xs more b some ascii =
    let bs = xs ++ b ∷ more in
    let long = length-append xs (b ∷ more) in
    let at : (k : ℕ) → k < length xs → slice_index xs k ≡ slice_index bs k = λ k l. sym (get_or_append_left xs (b ∷ more) 0 k l) in
    subst (λ v. decoded_by (length xs) v (slice_index xs 1) (slice_index xs 2) (slice_index xs 3) ≡ decoded bs) (sym (at 0 some))
    (decoded_by-cut (length xs) (length bs) (slice_index bs 0) (slice_index bs 1) (slice_index bs 2) (slice_index bs 3)
    (slice_index xs 1) (slice_index xs 2) (slice_index xs 3) (ends_before xs more b some ascii) (omega arith) some (at 1) (at 2) (at 3))

-- a character takes no more bytes than are there
takes_within : (xs : List ℕ) → 0 < length xs → suc (further_bytes (decoded xs)) ≤ length xs
takes_within xs some = by_char (decoded xs).char refl
  where
    by_char : (o : Option ℕ) → (decoded xs).char ≡ o → suc (further_bytes (decoded xs)) ≤ length xs
    by_char None is = let none : further_bytes (decoded xs) ≡ 0 = ap (λ o. further_bytes_of o (decoded xs).size) is in omega (arith, none, some)
    by_char (Some c) is =
        let bounds = piece-bounds xs some in
        let further : further_bytes (decoded xs) ≡ (decoded xs).size - 1 = ap (λ o. further_bytes_of o (decoded xs).size) is in
        omega (arith, bounds.0, bounds.2, further)

read_apart : (n : ℕ) (xs more : List ℕ) (b : ℕ) → length xs ≤ n → b < 128
    → characters_after 0 (xs ++ b ∷ more) ≡ characters_after 0 xs ++ characters_after 0 (b ∷ more)
unfolding characters_after
read_apart n [] more b few ascii = refl
read_apart zero (x ∷ xs) more b few ascii = absurd (omega arith)
read_apart (suc n) (x ∷ xs) more b few ascii =
    let l = x ∷ xs in
    let some : 0 < length l = omega arith in
    let size = suc (further_bytes (decoded l)) in
    let same = decodes_alone l more b some ascii in
    let within = takes_within l some in
    let left = length-drop size l in
    settled_first l (b ∷ more) (or_replacement (decoded l).char) size some refl (omega arith) within (sym same)
    ∙ ap (λ t. or_replacement (decoded l).char ∷ t) (read_apart n (drop size l) more b (omega arith) ascii)
    ∙ ap (λ t. t ++ characters_after 0 (b ∷ more)) (sym (characters_after-first l some))

pub passes_text : (decoder : Decoder) → decoder.stage ≡ Within → decoder.pending.items ≡ [] → PassesText decoder
passes_text decoder within none bytes given text b ascii h = record {
  can = h.can;
  gives = λ more.
      ap characters_of (append_assoc bytes (text ++ b ∷ []) more ∙ ap (λ t. bytes ++ t) (append_assoc text (b ∷ []) more))
      ∙ h.gives (text ++ b ∷ more)
      ∙ ap (λ s. given ++ ahead_at s (decoder.pending.items ++ (text ++ b ∷ more))) within
      ∙ ap (λ p. given ++ characters_after 0 (p ++ (text ++ b ∷ more))) none
      ∙ ap (λ t. given ++ t) (read_apart (length text) text more b (omega arith) ascii)
      ∙ ap (λ t. given ++ (characters_after 0 text ++ t)) (ascii_first b more ascii)
      ∙ ap (λ t. given ++ t) (sym (append_assoc (characters_after 0 text) (b ∷ []) (characters_after 0 more)))
      ∙ sym (append_assoc given (characters_after 0 text ++ b ∷ []) (characters_after 0 more))
      ∙ ap (λ p. (given ++ (characters_after 0 text ++ b ∷ [])) ++ characters_after 0 (p ++ more)) (sym none)
      ∙ ap (λ s. (given ++ (characters_after 0 text ++ b ∷ [])) ++ ahead_at s (decoder.pending.items ++ more)) (sym within);
}

pub settled_passes : (decoder : Decoder) → is_pending decoder ≡ false → PassesAscii decoder
settled_passes decoder settled = by_parts decoder.stage decoder.pending.items refl refl settled where
  by_parts : (stage : Stage) (items : List ℕ) → decoder.stage ≡ stage → decoder.pending.items ≡ items → pending_at stage items ≡ false → PassesAscii decoder
  by_parts Within [] within none is = passes_ascii decoder within none
  by_parts Within (b ∷ items) within none is =
      let some : (length (b ∷ items) == 0) ≡ false = grind (arith, nat_tests) in
      let lie : not (length (b ∷ items) == 0) ≡ true = ap not some in
      absurd (cc)
  by_parts Start items within none is = absurd (cc)
  by_parts Finished items within none is = absurd (cc)

pub no_items : (items : List ℕ) (empty : Bool) → empty ≡ (length items == 0) → not empty ≡ false → items ≡ []
no_items [] empty is some = refl
no_items (b ∷ items) empty is some =
    let none : (length (b ∷ items) == 0) ≡ false = grind (arith, nat_tests) in
    let lie : empty ≡ false = is ∙ none in
    let other : not empty ≡ true = ap not lie in absurd (cc)

-- a decoder with one byte more
pub one_more : (decoder : Decoder) (bytes given more : List ℕ) (b : ℕ) → HasRead decoder bytes given
    → characters_of ((bytes ++ b ∷ []) ++ more) ≡ given ++ ahead_at decoder.stage ((decoder.pending.items ++ b ∷ []) ++ more)
one_more decoder bytes given more b h =
    ap characters_of (append_assoc bytes (b ∷ []) more)
    ∙ h.gives (b ∷ more)
    ∙ ap (λ t. given ++ ahead_at decoder.stage t) (sym (append_assoc decoder.pending.items (b ∷ []) more))

-- bytes that begin the mark, and as many, are the mark
pub whole_mark : (bytes : List ℕ) → starts_with nat_eq byte_order_mark bytes ≡ true → length bytes ≡ 3 → bytes ≡ byte_order_mark
whole_mark [] is long = absurd (omega arith)
whole_mark (a ∷ []) is long = absurd (omega arith)
whole_mark (a ∷ b ∷ []) is long = absurd (omega arith)
whole_mark (a ∷ b ∷ c ∷ []) is long =
    let cut = starts_cut (a ∷ b ∷ c ∷ []) byte_order_mark is in
    let first : a ≡ 0xEF = cc (cut.1) in
    let next : b ≡ 0xBB = cc (cut.1) in
    let last : c ≡ 0xBF = cc (cut.1) in
    ap (λ x. x ∷ b ∷ c ∷ []) first ∙ ap (λ x. 0xEF ∷ x ∷ c ∷ []) next ∙ ap (λ x. 0xEF ∷ 0xBB ∷ x ∷ []) last
whole_mark (a ∷ b ∷ c ∷ d ∷ bytes) is long = absurd (omega arith)

-- past the mark, or where the bytes aren't its beginning, they are read as they stand
pub past_mark : (stage : Stage) (bytes more : List ℕ) → stage ≢ Finished
    → (stage ≡ Start → starts_with nat_eq byte_order_mark bytes ≡ false) → (stage ≡ Start → length bytes ≤ 3)
    → ahead_at stage (bytes ++ more) ≡ characters_after 0 (bytes ++ more)
past_mark Start bytes more can other few = no_mark bytes more (other refl) (few refl)
past_mark Within bytes more can other few = refl
past_mark Finished bytes more can other few = absurd (can refl)

-- at the end
pub at_end : (stage : Stage) (bytes : List ℕ) → stage ≢ Finished → (stage ≡ Start → length bytes ≤ 2)
    → ahead_at stage bytes ≡ characters_after 0 bytes
at_end Start bytes can few = few_no_mark bytes (few refl)
at_end Within bytes can few = refl
at_end Finished bytes can few = absurd (can refl)

-- what is pending is at most three bytes
pub all_but_three : (decoder : Decoder) (bytes given : List ℕ) → HasRead decoder bytes given → GivesAllButThree bytes given
all_but_three decoder bytes given h = (decoder.pending.items, few decoder.stage decoder.few, stands decoder.stage h.can h.gives) where
  few : (stage : Stage) → length decoder.pending.items ≤ most_pending stage → length decoder.pending.items ≤ 3
  few Start is = omega arith
  few Within is = is
  few Finished is = omega arith

  stands : (stage : Stage) → stage ≢ Finished → ((more : List ℕ) → characters_of (bytes ++ more) ≡ given ++ ahead_at stage (decoder.pending.items ++ more))
      → ((more : List ℕ) → characters_of (bytes ++ more) ≡ given ++ characters_of (decoder.pending.items ++ more))
      ⊎ ((more : List ℕ) → characters_of (bytes ++ more) ≡ given ++ characters_after 0 (decoder.pending.items ++ more))
  stands Start can gives = inl gives
  stands Within can gives = inr gives
  stands Finished can gives = absurd (can refl)
