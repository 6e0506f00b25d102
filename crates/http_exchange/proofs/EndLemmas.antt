-- Where the first CR LF CR LF stands, as a search finds it and as bytes that follow leave it.
use Rattle.std.proofs.Common.{◌≡◌, ℕ, zero, suc, ◌+◌, ◌<◌, ◌≤◌, Bool, true, false, cond, List, [], ◌∷◌, ◌++◌, length, take, drop, bytes_eq, Option, Some, None, unwrap_or, refl, sym, ap, ◌∙◌, arith, ⊎_elim}
use Rattle.std.specs.Option.{option_map}
use Rattle.std.proofs.lemmas.Bool.{cases_Bool}
use Rattle.std.proofs.lemmas.List.{take-append-le, take-append-drop, length-take-le}
use Rattle.std.proofs.lemmas.Slice.Eq.{bytes_eq-Decides}
use Rattle.memchr.specs.Find.{OccursAt}
use Rattle.memchr.proofs.lemmas.MatchLemmas.{OccursAt-part, OccursAt-from_part}
use Rattle.http_exchange.specs.Head.{head_end_bytes, begins_with_end, head_length}

-- the end stands in the rest of the bytes, a place earlier
earlier : (b : ℕ) (bytes : List ℕ) (k : ℕ) → OccursAt (b ∷ bytes) head_end_bytes (suc k) → OccursAt bytes head_end_bytes k
earlier b bytes k o =
    OccursAt-from_part bytes head_end_bytes k (omega (arith, o.fits)) (OccursAt-part (b ∷ bytes) head_end_bytes (suc k) o)

later : (b : ℕ) (bytes : List ℕ) (k : ℕ) → OccursAt bytes head_end_bytes k → OccursAt (b ∷ bytes) head_end_bytes (suc k)
later b bytes k o =
    OccursAt-from_part (b ∷ bytes) head_end_bytes (suc k) (omega (arith, o.fits)) (OccursAt-part bytes head_end_bytes k o)

here : (bytes : List ℕ) → OccursAt bytes head_end_bytes 0 → begins_with_end bytes ≡ true
here bytes o = (bytes_eq-Decides (take 4 bytes) head_end_bytes).1 (OccursAt-part bytes head_end_bytes 0 o)

occurs : (bytes : List ℕ) → begins_with_end bytes ≡ true → OccursAt bytes head_end_bytes 0
occurs bytes e =
    let part = (bytes_eq-Decides (take 4 bytes) head_end_bytes).0 e in
    let four : length (take 4 bytes) ≡ 4 = ap length part in
    OccursAt-from_part bytes head_end_bytes 0 (grind (arith, four)) part

elsewhere : (bytes : List ℕ) → (OccursAt bytes head_end_bytes 0 → ⊥) → begins_with_end bytes ≡ false
elsewhere bytes h = ⊎_elim (λ t. absurd (h (occurs bytes t))) (λ f. f) (cases_Bool (begins_with_end bytes))

pub head_length-none : (bytes : List ℕ) → ((k : ℕ) → k < length bytes + 1 → OccursAt bytes head_end_bytes k → ⊥)
    → head_length bytes ≡ None
unfolding head_length
head_length-none [] h = refl
head_length-none (b ∷ bytes) h =
    let not_here = elsewhere (b ∷ bytes) (h 0 (omega arith)) in
    let none = head_length-none bytes (λ k less o. h (suc k) (omega arith) (later b bytes k o)) in
    rw (not_here, none) refl

pub head_length-some : (bytes : List ℕ) (k : ℕ) → ((j : ℕ) → j < k → OccursAt bytes head_end_bytes j → ⊥)
    → OccursAt bytes head_end_bytes k → head_length bytes ≡ Some (k + 4)
unfolding head_length
head_length-some [] k before o = absurd (omega (arith, o.fits))
head_length-some (b ∷ bytes) zero before o = rw (here (b ∷ bytes) o) refl
head_length-some (b ∷ bytes) (suc k) before o =
    let not_here = elsewhere (b ∷ bytes) (before 0 (omega arith)) in
    let some = head_length-some bytes k (λ j less p. before (suc j) (omega arith) (later b bytes j p)) (earlier b bytes k o) in
    let place : suc (k + 4) ≡ suc k + 4 = omega arith in
    rw (not_here, some, place) refl

-- the two ways in which there is an end
by_cases : (t : Bool) (o : Option ℕ) (n : ℕ) (P : Type 0) → cond t (Some 4) (option_map suc o) ≡ Some n
    → (t ≡ true → n ≡ 4 → P) → (t ≡ false → (m : ℕ) → o ≡ Some m → n ≡ suc m → P) → P
by_cases true o n P h one other = one refl (ap (λ q. unwrap_or q 0) (sym h))
by_cases false None n P h one other = absurd (cc h)
by_cases false (Some m) n P h one other = other refl m refl (ap (λ q. unwrap_or q 0) (sym h))

-- the end is four bytes, and stands in the bytes
pub head_length-bounds : (bytes : List ℕ) (n : ℕ) → head_length bytes ≡ Some n → (4 ≤ n) × (n ≤ length bytes)
unfolding head_length
head_length-bounds [] n h = absurd (cc h)
head_length-bounds (b ∷ bytes) n h =
    by_cases (begins_with_end (b ∷ bytes)) (head_length bytes) n ((4 ≤ n) × (n ≤ length (b ∷ bytes))) h
    (λ t four. (omega arith, omega (arith, (occurs (b ∷ bytes) t).fits)))
    (λ f m some more. let rest = head_length-bounds bytes m some in (omega arith, omega arith))

-- bytes that follow leave it where it is
pub head_length-stays : (bytes more : List ℕ) (n : ℕ) → head_length bytes ≡ Some n → head_length (bytes ++ more) ≡ Some n
unfolding head_length
head_length-stays [] more n h = absurd (cc h)
head_length-stays (b ∷ bytes) more n h =
    let bounds = head_length-bounds (b ∷ bytes) n h in
    let same : begins_with_end (b ∷ (bytes ++ more)) ≡ begins_with_end (b ∷ bytes) =
    ap (λ l. bytes_eq l head_end_bytes) (take-append-le 4 (b ∷ bytes) more (omega arith)) in
    by_cases (begins_with_end (b ∷ bytes)) (head_length bytes) n (head_length (b ∷ (bytes ++ more)) ≡ Some n) h
    (λ t four. rw (same, t, four) refl)
    (λ f m some more_. rw (same, f, head_length-stays bytes more m some, more_) refl)

-- the first four bytes of a longer prefix
prefix : (n : ℕ) (bytes : List ℕ) → 4 ≤ n → n ≤ length bytes → take 4 (take n bytes) ≡ take 4 bytes
prefix n bytes four within =
    sym (take-append-le 4 (take n bytes) (drop n bytes) (omega (arith, length-take-le n bytes within)))
    ∙ ap (take 4) (take-append-drop n bytes)

-- the bytes up to it show it
pub head_length-alone : (bytes : List ℕ) (n : ℕ) → head_length bytes ≡ Some n → head_length (take n bytes) ≡ Some n
unfolding head_length
head_length-alone [] n h = absurd (cc h)
head_length-alone (b ∷ bytes) zero h = absurd (omega (arith, head_length-bounds (b ∷ bytes) 0 h))
head_length-alone (b ∷ bytes) (suc k) h =
    let bounds = head_length-bounds (b ∷ bytes) (suc k) h in
    let same : begins_with_end (b ∷ take k bytes) ≡ begins_with_end (b ∷ bytes) =
    ap (λ l. bytes_eq l head_end_bytes) (prefix (suc k) (b ∷ bytes) (omega arith) (omega arith)) in
    by_cases (begins_with_end (b ∷ bytes)) (head_length bytes) (suc k) (head_length (b ∷ take k bytes) ≡ Some (suc k)) h
    (λ t four. rw (same, t, four) refl)
    (λ f m some more_.
    let rest : head_length (take k bytes) ≡ Some k = head_length-alone bytes k (some ∙ ap Some (omega (arith, more_))) in
    rw (same, f, rest) refl)
