-- Runs of bytes, and what they leave of a piece.
use Rattle.std.proofs.Common.{◌≡◌, ℕ, zero, suc, ◌+◌, ◌-◌, ◌<◌, ◌≤◌, Bool, true, false, ◌&&◌, cond, nat_lt, List, [], ◌∷◌, ◌++◌, Option, Some, None, ◌⊎◌, inl, inr, length, get_or, take, drop, take_all, refl, sym, ap, subst, ◌∙◌, arith}
use Rattle.std.specs.List.{list_all, prefix_len}
use Rattle.std.specs.Char.{IsScalar, encode_utf8}
use Rattle.std.proofs.lemmas.Bool.{and_parts, and_from, cases_Bool}
use Rattle.std.proofs.lemmas.Bool.Decides.{nat_tests}
use Rattle.bstr.specs.Utf8.{decoded, or_replacement}
use Rattle.bstr.proofs.lemmas.SoundLemmas.{SpellsChar, SpellsChar-decoded}
use Rattle.text_stream.specs.Decoding.{characters_after, further_bytes}

-- sets that agree on bytes have the same runs
pub same_run : (p q : ℕ → Bool) (piece : List ℕ) → ((b : ℕ) → b < 256 → p b ≡ q b) → ((k : ℕ) → get_or piece k 0 < 256) → prefix_len p piece ≡ prefix_len q piece
same_run p q [] same bytes = refl
same_run p q (b ∷ piece) same bytes =
    ap (λ (t : Bool). cond t (1 + prefix_len p piece) 0) (same b (bytes 0))
    ∙ ap (λ (n : ℕ). cond (q b) (1 + n) 0) (same_run p q piece same (λ k. bytes (suc k)))

-- the bytes of a run are in the set
pub run_all : (p : ℕ → Bool) (piece : List ℕ) → list_all p (take (prefix_len p piece) piece) ≡ true
run_all p [] = refl
run_all p (b ∷ piece) = by_test (p b) refl (run_all p piece)
  where
    both : (s t : Bool) → s ≡ true → t ≡ true → (s && t) ≡ true
    both true t e f = f
    both false t e f = absurd cc

    by_test : (t : Bool) → p b ≡ t → list_all p (take (prefix_len p piece) piece) ≡ true → list_all p (take (cond t (1 + prefix_len p piece) 0) (b ∷ piece)) ≡ true
    by_test false e h = refl
    by_test true e h =
        let one : 1 + prefix_len p piece ≡ suc (prefix_len p piece) = omega arith in
        ap (λ (n : ℕ). list_all p (take n (b ∷ piece))) one ∙ both (p b) _ e h

-- what stands after a run, as its first byte and the others, as a pattern gives them
pub first_and_others : (text : List ℕ) → 1 ≤ length text → text ≡ get_or text 0 0 ∷ take (length text - 1) (drop 1 text)
first_and_others [] some = absurd (omega arith)
first_and_others (b ∷ text) some =
    ap (λ t. b ∷ t) (sym (take_all (length (b ∷ text) - 1) text (omega arith)))

-- what stands after a run isn't in the set
pub run_stop : (p : ℕ → Bool) (piece : List ℕ) → prefix_len p piece < length piece → p (get_or piece (prefix_len p piece) 0) ≡ false
run_stop p [] less = absurd (omega arith)
run_stop p (b ∷ piece) less = by_test (p b) refl less (λ within. run_stop p piece within)
  where
    by_test : (t : Bool) → p b ≡ t → cond t (1 + prefix_len p piece) 0 < suc (length piece)
        → (prefix_len p piece < length piece → p (get_or piece (prefix_len p piece) 0) ≡ false) → p (get_or (b ∷ piece) (cond t (1 + prefix_len p piece) 0) 0) ≡ false
    by_test false e less later = e
    by_test true e less later =
        let one : 1 + prefix_len p piece ≡ suc (prefix_len p piece) = omega arith in
        ap (λ n. p (get_or (b ∷ piece) n 0)) one ∙ later (omega arith)

-- ---- the characters of a run

one_byte : (c : ℕ) → nat_lt c 128 ≡ true → encode_utf8 c ≡ c ∷ []
unfolding encode_utf8
one_byte c small = rw small refl

-- the characters of bytes are in a set that has these bytes and all characters from 128 on
pub characters_all : (p : ℕ → Bool) → ((c : ℕ) → 128 ≤ c → IsScalar c → p c ≡ true) → (n : ℕ) (bytes : List ℕ) → list_all p bytes ≡ true
    → list_all p (characters_after n bytes) ≡ true
unfolding characters_after
characters_all p others n [] all = refl
characters_all p others (suc n) (b ∷ bytes) all = characters_all p others n bytes (and_parts (p b) (list_all p bytes) all).1
characters_all p others zero (b ∷ bytes) all =
    let parts = and_parts (p b) (list_all p bytes) all in
    and_from _ _ (first (decoded (b ∷ bytes)).char refl parts.0) (characters_all p others (further_bytes (decoded (b ∷ bytes))) bytes parts.1)
  where
    first : (o : Option ℕ) → (decoded (b ∷ bytes)).char ≡ o → p b ≡ true → p (or_replacement o) ≡ true
    first None is here = others 0xFFFD (omega arith) refl
    first (Some c) is here = by_size (cases_Bool (nat_lt c 128))
      where
        spells : SpellsChar (b ∷ bytes) c (decoded (b ∷ bytes)).size
        spells = SpellsChar-decoded (b ∷ bytes) c is

        by_size : (nat_lt c 128 ≡ true) ⊎ (nat_lt c 128 ≡ false) → p c ≡ true
        by_size (inl small) =
            let whole : b ∷ bytes ≡ c ∷ drop (decoded (b ∷ bytes)).size (b ∷ bytes) =
            spells.bytes ∙ ap (λ t. t ++ drop (decoded (b ∷ bytes)).size (b ∷ bytes)) (one_byte c small) in
            let same : b ≡ c = cc in subst (λ x. p x ≡ true) same here
        by_size (inr large) = let high : 128 ≤ c = grind (arith, nat_tests) in others c high spells.scalar
