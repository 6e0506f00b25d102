-- The first empty line of two texts, one after the other: it ends in the seam, or in the second.
use Rattle.std.proofs.Common.{◌≡◌, ◌≢◌, ℕ, zero, suc, ◌+◌, ◌-◌, ◌≤◌, ◌<◌, ◌==◌, Bool, true, false, cond, List, [], ◌∷◌, ◌++◌, length, take, drop, Option, None, Some, refl, sym, ap, ◌∙◌, inl, inr, ◌⊎◌, arith, append_assoc, length-append, length-drop, length-take}
use Rattle.std.specs.Prelude.{bytes_eq, nat_lt}
use Rattle.std.proofs.lemmas.Bool.Decides.{nat_tests}
use Rattle.std.specs.Option.{option_map}
use Rattle.std.proofs.Math.Seq.{take-append_seam, take-append-add}
use Rattle.std.proofs.lemmas.List.{length-take-le, take_all, take-take}
use Rattle.std.proofs.lemmas.List.{take-append-drop}
use Rattle.http_exchange.specs.Head.{head_end_bytes, begins_with_end, head_length}
use Rattle.http_exchange.proofs.EndLemmas.{head_length-stays, head_length-bounds, head_length-alone}
use Rattle.http_exchange.specs.HeadTexts.{head_limit, IsOpenHead}
use Rattle.http_exchange.specs.Gathering.{EndsAfter, TakesHead}
use Rattle.http_exchange.specs.declared.gathering.HeadTaken.TheVariants as taken

-- the first n of two texts see the first k of the second, where k is at least n
pub take-seam : (n k : ℕ) (a b : List ℕ) → n ≤ k → take n (a ++ take k b) ≡ take n (a ++ b)
take-seam zero k a b h = refl
take-seam (suc n) zero a b h = absurd (omega arith)
take-seam (suc n) (suc k) [] [] h = refl
take-seam (suc n) (suc k) [] (x ∷ b) h = ap (λ t. x ∷ t) (take-seam n k [] b (omega arith))
take-seam (suc n) (suc k) (x ∷ a) b h = ap (λ t. x ∷ t) (take-seam n (suc k) a b (omega arith))

none_cases : (t : Bool) (o : Option ℕ) → cond t (Some 4) (option_map suc o) ≡ None → (t ≡ false) × (o ≡ None)
none_cases true o h = absurd (cc h)
none_cases false None h = (refl, refl)
none_cases false (Some n) h = absurd (cc h)

plus_none : (o : Option ℕ) → o ≡ option_map (λ n. 0 + n) o
plus_none None = refl
plus_none (Some n) = ap Some (omega arith)

plus_one : (k : ℕ) (o : Option ℕ) → option_map suc (option_map (λ n. k + n) o) ≡ option_map (λ n. suc k + n) o
plus_one k None = refl
plus_one k (Some n) = ap Some (omega arith)

-- where the first text and three bytes of the second have no end, it is that of the second
pub head_length-after : (a b : List ℕ) → head_length (a ++ take 3 b) ≡ None
    → head_length (a ++ b) ≡ option_map (λ n. length a + n) (head_length b)
unfolding head_length
head_length-after [] b h = plus_none (head_length b)
head_length-after (x ∷ a) b h =
    let same : begins_with_end (x ∷ (a ++ take 3 b)) ≡ begins_with_end (x ∷ (a ++ b)) =
    ap (λ t. bytes_eq (x ∷ t) head_end_bytes) (take-seam 3 3 a b (omega arith)) in
    let (here, there) = none_cases (begins_with_end (x ∷ (a ++ take 3 b))) (head_length (a ++ take 3 b)) h in
    rw (← same, here, head_length-after a b there) (plus_one (length a) (head_length b))

-- fewer than four bytes have no end
pub head_length-short : (text : List ℕ) → length text ≤ 3 → head_length text ≡ None
head_length-short text short = by_option (head_length text) refl
  where
    by_option : (o : Option ℕ) → head_length text ≡ o → head_length text ≡ None
    by_option None is = is
    by_option (Some n) is = absurd (omega (arith, short, head_length-bounds text n is))

-- after no bytes, it is that of the piece
pub ends_alone : (text piece : List ℕ) (end : Option ℕ) → (length text == 0) ≡ true → end ≡ head_length piece
    → EndsAfter text piece end
ends_alone [] piece None empty is = sym is
ends_alone [] piece (Some used) empty is =
    let bounds = head_length-bounds piece used (sym is) in
    let same : used ≡ 0 + used = omega arith in
    (sym is ∙ ap Some same, omega (arith, bounds.0), bounds.1)
ends_alone (b ∷ text) piece end empty is = absurd (grind (arith, nat_tests, empty))

nat_cases : (a b : ℕ) → (a ≤ b) ⊎ (b < a)
nat_cases a b = by_test (nat_lt b a) refl
  where
    by_test : (t : Bool) → nat_lt b a ≡ t → (a ≤ b) ⊎ (b < a)
    by_test true is = inr (grind (arith, nat_tests, is))
    by_test false is = inl (grind (arith, nat_tests, is))

-- the last three bytes of a text, or all of a shorter one
abbrev pub last_three : List ℕ → List ℕ
last_three text = drop (length text - 3) text

abbrev before_three : List ℕ → List ℕ
before_three text = take (length text - 3) text

three_bytes : (text : List ℕ) → length (before_three text) + length (last_three text) ≡ length text
three_bytes text = omega (arith, length-take {A = ℕ}, length-drop {A = ℕ})

short_or_three : (text piece : List ℕ) → head_length text ≡ None
    → head_length (before_three text ++ take 3 (last_three text ++ piece)) ≡ None
short_or_three text piece none =
    elim (nat_cases 3 (length text)) [
      | inl long ↦
          let three : length (last_three text) ≡ 3 = omega (arith, length-drop (length text - 3) text) in
          let same : take 3 (last_three text ++ piece) ≡ last_three text =
          ap (λ n. take n (last_three text ++ piece)) (sym three) ∙ take-append_seam (last_three text) piece in
          rw (same, take-append-drop (length text - 3) text) none
      | inr short ↦
          let zero_ : length text - 3 ≡ 0 = omega arith in
          rw zero_ (head_length-short (take 3 (text ++ piece)) (omega (arith, length-take 3 (text ++ piece))))
    ]

-- the same, with the text's last three bytes in the place of the text
pub head_length-seam : (text piece : List ℕ) → head_length text ≡ None
    → head_length (text ++ piece)
    ≡ option_map (λ n. length (before_three text) + n) (head_length (last_three text ++ piece))
head_length-seam text piece none =
    let parts : text ++ piece ≡ before_three text ++ (last_three text ++ piece) =
    ap (λ t. t ++ piece) (sym (take-append-drop (length text - 3) text)) ∙ append_assoc (before_three text) (last_three text) piece in
    rw parts (head_length-after (before_three text) (last_three text ++ piece) (short_or_three text piece none))

-- the end is in the seam
pub ends_in_seam : (text piece : List ℕ) (n : ℕ) → head_length text ≡ None
    → head_length (last_three text ++ take 3 piece) ≡ Some n
    → EndsAfter text piece (Some (n - length (last_three text))) × (length (last_three text) ≤ n)
ends_in_seam text piece n none found =
    let bounds = head_length-bounds (last_three text ++ take 3 piece) n found in
    let short : length (last_three text) ≤ 3 = omega (arith, length-drop (length text - 3) text) in
    let size : length (last_three text ++ take 3 piece) ≤ length (last_three text) + length piece =
    omega (arith, length-append (last_three text) (take 3 piece), length-take 3 piece) in
    let parts : (last_three text ++ take 3 piece) ++ drop 3 piece ≡ last_three text ++ piece =
    append_assoc (last_three text) (take 3 piece) (drop 3 piece) ∙ ap (λ t. last_three text ++ t) (take-append-drop 3 piece) in
    let longer : head_length (last_three text ++ piece) ≡ Some n =
    rw (← parts) (head_length-stays (last_three text ++ take 3 piece) (drop 3 piece) n found) in
    let whole = three_bytes text in
    let sum : length (before_three text) + n ≡ length text + (n - length (last_three text)) = omega arith in
    let at : head_length (text ++ piece) ≡ Some (length (before_three text) + n) =
    head_length-seam text piece none ∙ ap (option_map (λ k. length (before_three text) + k)) longer in
    ((at ∙ ap Some sum, omega arith, omega arith), omega arith)

-- the end is in the second text, or there is none
pub ends_in_piece : (text piece : List ℕ) (r : Option ℕ) → head_length text ≡ None
    → head_length (last_three text ++ take 3 piece) ≡ None → r ≡ head_length piece → EndsAfter text piece r
ends_in_piece text piece r none seam found =
    by_answer r (head_length-seam text piece none
    ∙ ap (option_map (λ k. length (before_three text) + k)) (head_length-after (last_three text) piece seam ∙ ap (option_map (λ k. length (last_three text) + k)) (sym found)))
    found
  where
    by_answer : (r : Option ℕ)
        → head_length (text ++ piece) ≡ option_map (λ k. length (before_three text) + k) (option_map (λ k. length (last_three text) + k) r)
        → r ≡ head_length piece → EndsAfter text piece r
    by_answer None is found = is
    by_answer (Some n) is found =
        let bounds = head_length-bounds piece n (sym found) in
        (is ∙ ap Some (omega (arith, three_bytes text)), omega arith, omega arith)

-- a piece that completes a head
pub takes_whole : (text piece prefix new : List ℕ) (k used : ℕ) → IsOpenHead text → prefix ≡ take k piece
    → length text + k ≡ head_limit → EndsAfter text prefix (Some used) → new ≡ text ++ take used prefix
    → TakesHead text new piece (taken.Whole used)
takes_whole text piece prefix new k used open_ is room (ends, some, within) new_is =
    let less : used ≤ k = omega (arith, ap length is, length-take k piece) in
    let short : used ≤ length piece = omega (arith, ap length is, length-take k piece) in
    let same : take used prefix ≡ take used piece = ap (take used) is ∙ take-take used k piece less in
    let size : length (take used prefix) ≡ used = length-take-le used prefix within in
    let sized : length new ≡ length text + used = ap length new_is ∙ length-append text (take used prefix) ∙ ap (λ n. length text + n) size in
    let cut : take (length text + used) (text ++ prefix) ≡ new = take-append-add text prefix used ∙ sym new_is in
    let ended : head_length new ≡ Some (length text + used) = rw (← cut) (head_length-alone (text ++ prefix) (length text + used) ends) in (
      some,
      short,
      new_is ∙ ap (λ t. text ++ t) same,
      record {
        ends = ended ∙ ap Some (sym sized);
        fits = omega arith;
      },
    )

-- a piece after which the head goes on, or is too long
pub takes_long : (text piece prefix new : List ℕ) (k : ℕ) → prefix ≡ take k piece
    → head_length (text ++ prefix) ≡ None → new ≡ text ++ prefix → length new ≡ head_limit
    → TakesHead text new piece taken.Long
takes_long text piece prefix new k is none new_is full = (
  prefix,
  drop k piece,
  sym (take-append-drop k piece) ∙ ap (λ t. t ++ drop k piece) (sym is),
  new_is,
  record {
    open_ = rw new_is none;
    full = full;
  },
)

pub takes_open : (text piece prefix new : List ℕ) (k : ℕ) → prefix ≡ take k piece → length text + k ≡ head_limit
    → head_length (text ++ prefix) ≡ None → new ≡ text ++ prefix → length new ≢ head_limit
    → TakesHead text new piece taken.Open
takes_open text piece prefix new k is room none new_is short =
    let size : length new ≡ length text + length prefix = ap length new_is ∙ length-append text prefix in
    let fits : length prefix ≤ k = omega (arith, ap length is, length-take k piece) in
    let less : length prefix < k = omega arith in
    let few : length piece ≤ k = omega (arith, ap length is, length-take k piece) in
    let all : prefix ≡ piece = is ∙ take_all k piece few in
    (new_is ∙ ap (λ t. text ++ t) all, record { open_ = rw new_is none; fits = omega arith })
