-- What an unframer answers, by its frame.
use Rattle.std.proofs.Common.{◌≡◌, ◌⊎◌, ℕ, Bool, zero, suc, ◌+◌, ◌-◌, ◌<◌, ◌≤◌, true, false, List, [], ◌∷◌, ◌++◌, length, take, drop, min, refl, sym, ap, subst, ◌∙◌, arith, append-nil, length-append, ⊎_elim, inl, inr}
use Rattle.std.proofs.lemmas.Bool.{cases_Bool, false≢true, cases_lt}
use Rattle.std.proofs.lemmas.List.{length-take, length-take-le, take_all}
use Rattle.std.proofs.Math.Nat.{eq-or-lt_of_le}
use Rattle.std.proofs.Math.Seq.{take-add}
use Rattle.http_exchange.specs.Chunked.{IsChunkedPrefix, IsChunkedWhole}
use Rattle.http_exchange.specs.Frames.{IsBodyPrefix, HasBodyPrefix, IsWhole, IsBadAt}
use Rattle.http_exchange.specs.Pieces.{Reads, Fails, TakesChunks}
use Rattle.http_exchange.specs.Places.{is_content, is_dead, is_end, step, run, gives}
use Rattle.http_exchange.specs.Reads.{StandsAt, HasRead, IsTaken, Gets, Refuses, Answers}
use Rattle.http_exchange.specs.declared.frames.BodyFrame.{BodyFrame}
use Rattle.http_exchange.specs.declared.frames.BodyFrame.TheVariants as frame
use Rattle.http_exchange.specs.declared.pieces.Taken.{Taken}
use Rattle.http_exchange.specs.declared.pieces.Taken.TheVariants.{Got, Bad}
use Rattle.http_exchange.specs.declared.places.Place.{Place}
use Rattle.http_exchange.specs.declared.places.Place.TheVariants.{Size, Whole, Dead}
use Rattle.http_exchange.specs.declared.unframing.Reading.{Reading}
use Rattle.http_exchange.specs.declared.unframing.Reading.TheVariants.{Counted, Chunks, Rest}
use Rattle.http_exchange.proofs.ChunkedLemmas.{prefix_of_alive, alive_of_prefix, gives_of_prefix, whole_of_end, end_of_whole}
use Rattle.http_exchange.proofs.RunLemmas.{run-append, gives-append, gives-more, run-dead, end_is, alive_prefix}

-- ---- lists

-- what follows changes nothing
nothing_more : (xs ys : List ℕ) → xs ≡ xs ++ ys → ys ≡ []
nothing_more xs [] h = refl
nothing_more xs (y ∷ ys) h =
    let long : length xs ≡ length xs + length (y ∷ ys) = ap length h ∙ length-append xs (y ∷ ys) in absurd (omega (arith, long))

-- neither does what stands in prefix of nothing
prefix_nothing : (xs ys : List ℕ) → xs ++ ys ≡ [] → xs ≡ []
prefix_nothing [] ys h = refl
prefix_nothing (x ∷ xs) ys h = absurd (cc h)

-- after the end each byte is refused
end_only : (more : List ℕ) → is_dead (run Whole more) ≡ false → run Whole more ≡ Whole
end_only [] alive = refl
end_only (x ∷ more) alive = absurd (false≢true (sym alive ∙ ap is_dead (run-dead more)))

-- ---- laws of prefixes

empty : (xs : List ℕ) → length xs ≡ 0 → xs ≡ []
empty [] h = refl
empty (x ∷ xs) h = absurd (omega (arith, h))

pub one_prefix : (f : BodyFrame) (m g h : List ℕ) → IsBodyPrefix f m g → IsBodyPrefix f m h → g ≡ h
one_prefix frame.Empty m g h x y = x.1 ∙ sym y.1
one_prefix (frame.Length n) m g h x y = x.1 ∙ sym y.1
one_prefix frame.Chunked m g h x y = gives_of_prefix m g x ∙ sym (gives_of_prefix m h y)
one_prefix frame.ToEnd m g h x y = x ∙ sym y

pub shorter_prefix : (f : BodyFrame) (m more g : List ℕ) → IsBodyPrefix f (m ++ more) g → HasBodyPrefix f m g
shorter_prefix frame.Empty m more g x = ([], [], (prefix_nothing m more x.0, refl), x.1)
shorter_prefix (frame.Length n) m more g x = (m, more, (omega (arith, x.0, length-append m more), refl), x.1)
shorter_prefix frame.Chunked m more g x =
    let alive : is_dead (run (Size 0 0) m) ≡ false = alive_prefix (Size 0 0) m more (alive_of_prefix (m ++ more) g x) in (
      gives (Size 0 0) m,
      gives (run (Size 0 0) m) more,
      prefix_of_alive m alive,
      gives_of_prefix (m ++ more) g x ∙ gives-append (Size 0 0) m more,
    )
shorter_prefix frame.ToEnd m more g x = (m, more, refl, x)

pub whole_prefix : (f : BodyFrame) (m : List ℕ) → IsWhole f m → (g : List ℕ) × IsBodyPrefix f m g
whole_prefix frame.Empty m whole = ([], (whole, refl))
whole_prefix (frame.Length n) m whole = (m, (omega (arith, whole), refl))
whole_prefix frame.Chunked m whole = (gives (Size 0 0) m, prefix_of_alive m (ap is_dead (end_of_whole m whole)))
whole_prefix frame.ToEnd m whole = absurd whole

pub last_byte : (f : BodyFrame) (m more g : List ℕ) → IsWhole f m → IsBodyPrefix f (m ++ more) g → more ≡ []
last_byte frame.Empty m more g whole x = nothing_more m more (whole ∙ sym x.0)
last_byte (frame.Length n) m more g whole x = empty more (omega (arith, x.0, length-append m more, whole))
last_byte frame.Chunked m [] g whole x = refl
last_byte frame.Chunked m (b ∷ more) g whole x =
    let leads : run (Size 0 0) (m ++ b ∷ more) ≡ Dead =
    run-append (Size 0 0) m (b ∷ more) ∙ ap (λ p. run p (b ∷ more)) (end_of_whole m whole) ∙ run-dead more in
    absurd (false≢true (sym (alive_of_prefix (m ++ b ∷ more) g x) ∙ ap is_dead leads))
last_byte frame.ToEnd m more g whole x = absurd whole

-- no byte was read only where there is none or the body is whole
moves : (f : BodyFrame) (m given piece body : List ℕ) (used : ℕ) → IsBodyPrefix f m given → IsBodyPrefix f (m ++ take used piece) (given ++ body)
    → (body ≡ [] → used < length piece → IsWhole f (m ++ take used piece)) → used ≡ 0 → 1 ≤ length piece → IsWhole f m
moves f m given piece body used before prefix rests none some =
    let same : m ++ take used piece ≡ m = ap (λ n. m ++ take n piece) none ∙ append-nil m in
    let F : List ℕ → Type 0 = λ l. IsBodyPrefix f l (given ++ body) in
    let no_body : body ≡ [] = nothing_more given body (one_prefix f m given (given ++ body) before (subst F same prefix)) in
    subst (IsWhole f) same (rests no_body (omega (arith, none, some)))

-- none is read after the end
stays : (f : BodyFrame) (m g piece : List ℕ) (used : ℕ) → used ≤ length piece → IsBodyPrefix f (m ++ take used piece) g → IsWhole f m → used ≡ 0
stays f m g piece used within prefix whole =
    let none : length (take used piece) ≡ 0 = ap length (last_byte f m (take used piece) g whole prefix) in
    omega (arith, none, length-take-le used piece within)

-- ---- chunked bodies

-- where the bytes m and a piece lead
run_piece : (p : Place) (m taken : List ℕ) → p ≡ run (Size 0 0) m → run (Size 0 0) (m ++ taken) ≡ run p taken
run_piece p m taken stands = run-append (Size 0 0) m taken ∙ ap (λ q. run q taken) (sym stands)

gives_piece : (p : Place) (m given taken : List ℕ) → p ≡ run (Size 0 0) m → given ≡ gives (Size 0 0) m
    → gives (Size 0 0) (m ++ taken) ≡ given ++ gives p taken
gives_piece p m given taken stands gives_ =
    gives-append (Size 0 0) m taken ∙ ap (λ l. l ++ gives (run (Size 0 0) m) taken) (sym gives_)
    ∙ ap (λ q. given ++ gives q taken) (sym stands)

module _ (p q : Place) (m given piece : List ℕ) (stands : p ≡ run (Size 0 0) m) (gives_ : given ≡ gives (Size 0 0) m) (alive : is_dead p ≡ false) where
  -- the place at a bad byte is alive, gave nothing and isn't the end; the byte leads to none
  bad_alive : (at : ℕ) → IsBadAt frame.Chunked m given piece at → is_dead (run p (take at piece)) ≡ false
  bad_alive at bad = ap is_dead (sym (run_piece p m (take at piece) stands)) ∙ alive_of_prefix (m ++ take at piece) given bad.before

  bad_frames : (at : ℕ) → IsBadAt frame.Chunked m given piece at → gives p (take at piece) ≡ []
  bad_frames at bad =
      nothing_more given (gives p (take at piece))
      (gives_of_prefix (m ++ take at piece) given bad.before ∙ gives_piece p m given (take at piece) stands gives_)

  bad_open : (at : ℕ) → IsBadAt frame.Chunked m given piece at → run p (take at piece) ≡ Whole → ⊥
  bad_open at bad ends = bad.unfinished (whole_of_end (m ++ take at piece) (run_piece p m (take at piece) stands ∙ ends))

  bad_dead : (at : ℕ) → IsBadAt frame.Chunked m given piece at → is_dead (run p (take (at + 1) piece)) ≡ false → ⊥
  bad_dead at bad lives =
      bad.bad _ (prefix_of_alive (m ++ take (at + 1) piece) (ap is_dead (run_piece p m (take (at + 1) piece) stands) ∙ lives))

  no_bad : (body : List ℕ) (used : ℕ) → Reads p q piece body used → (at : ℕ) → IsBadAt frame.Chunked m given piece at → ⊥
  no_bad body used r at bad =
      elim (cases_lt at used) [
        | inl before ↦
            let cut : take used piece ≡ take (at + 1) piece ++ take (used - (at + 1)) (drop (at + 1) piece) =
            ap (λ n. take n piece) (omega arith) ∙ take-add (at + 1) (used - (at + 1)) piece in
            let lives : is_dead (run p (take (at + 1) piece ++ take (used - (at + 1)) (drop (at + 1) piece))) ≡ false =
            ap (λ l. is_dead (run p l)) (sym cut) ∙ ap is_dead r.leads ∙ r.alive alive in
            bad_dead at bad (alive_prefix p (take (at + 1) piece) _ lives)
        | inr after ↦
            let more : List ℕ = take (at - used) (drop used piece) in
            let cut : take at piece ≡ take used piece ++ more =
            ap (λ n. take n piece) (omega arith) ∙ take-add used (at - used) piece in
            let none : gives p (take used piece) ≡ [] =
            prefix_nothing (gives p (take used piece)) (gives (run p (take used piece)) more)
            (sym (gives-append p (take used piece) more) ∙ ap (gives p) (sym cut) ∙ bad_frames at bad) in
            let ends : q ≡ Whole = end_is q (r.rests (sym r.content ∙ none) (omega (arith, bad.within))) in
            let leads : run p (take at piece) ≡ run Whole more =
            ap (run p) cut ∙ run-append p (take used piece) more ∙ ap (λ x. run x more) (r.leads ∙ ends) in
            bad_open at bad (leads ∙ end_only more (ap is_dead (sym leads) ∙ bad_alive at bad))
      ]

  pub chunks_get : (body : List ℕ) (used : ℕ) → Reads p q piece body used → Gets (Chunks q) frame.Chunked m given piece body used
  chunks_get body used r =
      let leads : run (Size 0 0) (m ++ take used piece) ≡ q = run_piece p m (take used piece) stands ∙ r.leads in
      let content : gives (Size 0 0) (m ++ take used piece) ≡ given ++ body =
      gives_piece p m given (take used piece) stands gives_ ∙ ap (λ l. given ++ l) r.content in
      let F : List ℕ → Type 0 = λ l. IsChunkedPrefix (m ++ take used piece) l in
      let B : List ℕ → Type 0 = λ l. IsChunkedPrefix m l in
      let before : IsChunkedPrefix m given = subst B (sym gives_) (prefix_of_alive m (ap is_dead (sym stands) ∙ alive)) in
      let prefix : IsChunkedPrefix (m ++ take used piece) (given ++ body) =
      subst F content (prefix_of_alive (m ++ take used piece) (ap is_dead leads ∙ r.alive alive)) in
      let rests : body ≡ [] → used < length piece → IsChunkedWhole (m ++ take used piece) =
      λ none less. whole_of_end (m ++ take used piece) (leads ∙ end_is q (r.rests none less)) in
      record {
        within = r.within;
        reads = record { stands = (sym leads, sym content, r.alive alive) };
        prefix = prefix;
        moves = moves frame.Chunked m given piece body used before prefix rests;
        stays = stays frame.Chunked m (given ++ body) piece used r.within prefix;
        runs = λ less g longer.
            gives_of_prefix (m ++ take (used + 1) piece) g longer
            ∙ gives_piece p m given (take (used + 1) piece) stands gives_
            ∙ ap (λ l. given ++ l) (gives-more p q piece used less r.leads (r.ends less) ∙ r.content);
        rests = rests;
        fine = no_bad body used r;
      }

-- a dead place has read nothing
spent : (e : BodyFrame) (n got : List ℕ) → HasRead (Chunks Dead) e n got → ⊥
spent frame.Empty n got h = h.stands
spent (frame.Length k) n got h = h.stands
spent frame.Chunked n got h = false≢true (sym h.stands.2)
spent frame.ToEnd n got h = h.stands

chunks_refuse : (p : Place) (m given piece : List ℕ) (at : ℕ) → p ≡ run (Size 0 0) m → given ≡ gives (Size 0 0) m
    → is_dead p ≡ false → Fails p piece at → Refuses (Chunks Dead) frame.Chunked m given piece at
chunks_refuse p m given piece at stands gives_ alive h =
    let leads = run_piece p m (take at piece) stands in
    let content : gives (Size 0 0) (m ++ take at piece) ≡ given =
    gives_piece p m given (take at piece) stands gives_ ∙ ap (λ l. given ++ l) h.frames ∙ append-nil given in
    let F : List ℕ → Type 0 = λ l. IsChunkedPrefix (m ++ take at piece) l in
    record {
      chunked = refl;
      bad = record {
        within = h.within;
        before = subst F content (prefix_of_alive (m ++ take at piece) (ap is_dead leads ∙ h.alive alive));
        unfinished = λ whole. false≢true (sym h.unfinished ∙ ap is_end (sym leads ∙ end_of_whole (m ++ take at piece) whole));
        bad = λ g prefix. false≢true
            (sym (alive_of_prefix (m ++ take (at + 1) piece) g prefix)
            ∙ ap is_dead (run_piece p m (take (at + 1) piece) stands ∙ h.dead));
      };
      spent = spent;
    }

pub chunks_answer : (p q : Place) (t : Taken) (f : BodyFrame) (m given piece : List ℕ) → TakesChunks p q piece t
    → StandsAt (Chunks p) f m given → Answers t (Chunks q) f m given piece
chunks_answer p q t frame.Empty m given piece h stands = absurd stands
chunks_answer p q t (frame.Length n) m given piece h stands = absurd stands
chunks_answer p q t frame.ToEnd m given piece h stands = absurd stands
chunks_answer p q (Got body used) frame.Chunked m given piece h stands =
    chunks_get p q m given piece stands.0 stands.1 stands.2 body.now used h
chunks_answer p q (Bad at) frame.Chunked m given piece h stands =
    let P : Place → Type 0 = λ r. Refuses (Chunks r) frame.Chunked m given piece at in
    subst P (sym h.1) (chunks_refuse p m given piece at stands.0 stands.1 stands.2 h.0)

-- ---- counted bodies, and those to the end

strictly : (a n : ℕ) → a ≤ n → (a ≡ n → ⊥) → a < n
strictly a n h differs = ⊎_elim (λ same. absurd (differs same)) (λ less. less) (eq-or-lt_of_le h)

prefix_long : (left : ℕ) (piece body : List ℕ) → body ≡ take (min left (length piece)) piece → length body ≡ min left (length piece)
prefix_long left piece body is = ap length is ∙ length-take (min left (length piece)) piece ∙ omega arith

prefix_taken : (left : ℕ) (piece body : List ℕ) → body ≡ take (min left (length piece)) piece → take (length body) piece ≡ body
prefix_taken left piece body is = ap (λ n. take n piece) (prefix_long left piece body is) ∙ sym is

with_prefix : (m piece : List ℕ) (n : ℕ) → n ≤ length piece → length (m ++ take n piece) ≡ length m + n
with_prefix m piece n within = length-append m (take n piece) ∙ ap (λ k. length m + k) (length-take-le n piece within)

pub counted_get : (left : ℕ) (f : BodyFrame) (m given piece body : List ℕ) → body ≡ take (min left (length piece)) piece
    → StandsAt (Counted left) f m given → Gets (Counted (left - length body)) f m given piece body (length body)
counted_get left frame.Chunked m given piece body is stands = absurd stands
counted_get left frame.ToEnd m given piece body is stands = absurd stands
counted_get left frame.Empty m given piece body is stands =
    let long : length body ≡ min left (length piece) = prefix_long left piece body is in
    let none : body ≡ [] = empty body (omega (arith, long, stands.0)) in
    let nothing : m ++ take (length body) piece ≡ [] =
    ap (λ l. m ++ l) (prefix_taken left piece body is ∙ none) ∙ append-nil m ∙ stands.1 in
    let content : given ++ body ≡ [] = ap (λ l. given ++ l) none ∙ append-nil given ∙ stands.2 in
    record {
      within = omega (arith, long);
      reads = record { stands = (omega (arith, stands.0), nothing, content) };
      prefix = (nothing, content);
      moves = λ none some. stands.1;
      stays = λ whole. omega (arith, long, stands.0);
      runs = λ less g prefix. prefix.1 ∙ sym content;
      rests = λ none less. nothing;
      fine = λ at bad. bad.unfinished bad.before.0;
    }
counted_get left (frame.Length n) m given piece body is stands =
    let long : length body ≡ min left (length piece) = prefix_long left piece body is in
    let joined : m ++ take (length body) piece ≡ m ++ body = ap (λ l. m ++ l) (prefix_taken left piece body is) in
    let both : length (m ++ take (length body) piece) ≡ length m + length body = ap length joined ∙ length-append m body in
    let content : given ++ body ≡ m ++ take (length body) piece = ap (λ l. l ++ body) stands.1 ∙ sym joined in
    record {
      within = omega (arith, long);
      reads = record { stands = (omega (arith, both, stands.0, long), content) };
      prefix = (omega (arith, both, stands.0, long), content);
      moves = λ none some. omega (arith, none, some, long, stands.0);
      stays = λ whole. omega (arith, whole, stands.0, long);
      runs = λ less g prefix. absurd (omega (arith, prefix.0, with_prefix m piece (length body + 1) (omega (arith, less)), stands.0, long));
      rests = λ none less. omega (arith, both, stands.0, long, less);
      fine = λ at bad.
          bad.bad (m ++ take (at + 1) piece)
          (omega (arith, with_prefix m piece (at + 1) (omega (arith, bad.within)), strictly (length (m ++ take at piece)) n bad.before.0 bad.unfinished, with_prefix m piece at (omega (arith, bad.within))), refl);
    }

pub rest_get : (f : BodyFrame) (m given piece : List ℕ) → StandsAt Rest f m given → Gets Rest f m given piece piece (length piece)
rest_get frame.Chunked m given piece stands = absurd stands
rest_get frame.Empty m given piece stands = absurd stands
rest_get (frame.Length n) m given piece stands = absurd stands
rest_get frame.ToEnd m given piece stands =
    let all : take (length piece) piece ≡ piece = take_all (length piece) piece (omega arith) in
    let content : given ++ piece ≡ m ++ take (length piece) piece = ap (λ l. l ++ piece) stands ∙ ap (λ l. m ++ l) (sym all) in
    record {
      within = omega arith;
      reads = record { stands = content };
      prefix = content;
      moves = λ none some. absurd (omega (arith, none, some));
      stays = λ whole. absurd whole;
      runs = λ less g prefix. absurd (omega (arith, less));
      rests = λ none less. absurd (omega (arith, less));
      fine = λ at bad. bad.bad _ refl;
    }

-- ---- what holds of each unframer

-- the bytes that it read begin a body of its frame, and it gave their content
pub prefix_read : (u : Reading) (f : BodyFrame) (m given : List ℕ) → StandsAt u f m given → IsBodyPrefix f m given
prefix_read (Counted left) frame.Empty m given h = (h.1, h.2)
prefix_read (Counted left) (frame.Length n) m given h = (omega (arith, h.0), h.1)
prefix_read (Counted left) frame.Chunked m given h = absurd h
prefix_read (Counted left) frame.ToEnd m given h = absurd h
prefix_read (Chunks p) frame.Chunked m given h =
    let F : List ℕ → Type 0 = λ l. IsChunkedPrefix m l in
    subst F (sym h.1) (prefix_of_alive m (ap is_dead (sym h.0) ∙ h.2))
prefix_read (Chunks p) frame.Empty m given h = absurd h
prefix_read (Chunks p) (frame.Length n) m given h = absurd h
prefix_read (Chunks p) frame.ToEnd m given h = absurd h
prefix_read Rest frame.ToEnd m given h = h
prefix_read Rest frame.Empty m given h = absurd h
prefix_read Rest (frame.Length n) m given h = absurd h
prefix_read Rest frame.Chunked m given h = absurd h

-- a place in a chunked body is the end exactly where the body is whole
pub whole_read : (p : Place) (f : BodyFrame) (m given : List ℕ) → StandsAt (Chunks p) f m given
    → (is_end p ≡ true → IsWhole f m) × (IsWhole f m → is_end p ≡ true)
whole_read p frame.Chunked m given h =
    (λ ends. whole_of_end m (sym h.0 ∙ end_is p ends), λ whole. ap is_end (h.0 ∙ end_of_whole m whole))
whole_read p frame.Empty m given h = absurd h
whole_read p (frame.Length n) m given h = absurd h
whole_read p frame.ToEnd m given h = absurd h

-- an unframer that has read nothing
pub starts : (f : BodyFrame) → (u : Reading) × StandsAt u f [] []
starts frame.Empty = (Counted 0, (refl, refl, refl))
starts (frame.Length n) = (Counted n, (omega arith, refl))
starts frame.Chunked = (Chunks (Size 0 0), (refl, refl, refl))
starts frame.ToEnd = (Rest, refl)

-- whether a body is whole is known where an unframer has read it
pub whole-or-not : (u : Reading) (f : BodyFrame) (m g : List ℕ) → StandsAt u f m g → IsWhole f m ⊎ (IsWhole f m → ⊥)
whole-or-not (Counted left) frame.Empty m g h = inl h.1
whole-or-not (Counted zero) (frame.Length n) m g h = inl (omega (arith, h.0))
whole-or-not (Counted (suc left)) (frame.Length n) m g h = inr (λ whole. absurd (omega (arith, h.0, whole)))
whole-or-not (Counted left) frame.Chunked m g h = absurd h
whole-or-not (Counted left) frame.ToEnd m g h = absurd h
whole-or-not (Chunks p) frame.Chunked m g h = by (is_end p) refl
  where
    by : (b : Bool) → is_end p ≡ b → IsWhole frame.Chunked m ⊎ (IsWhole frame.Chunked m → ⊥)
    by true is = inl ((whole_read p frame.Chunked m g h).0 is)
    by false is = inr (λ whole. false≢true (sym is ∙ (whole_read p frame.Chunked m g h).1 whole))
whole-or-not (Chunks p) frame.Empty m g h = absurd h
whole-or-not (Chunks p) (frame.Length n) m g h = absurd h
whole-or-not (Chunks p) frame.ToEnd m g h = absurd h
whole-or-not Rest frame.ToEnd m g h = inr (λ never. never)
whole-or-not Rest frame.Empty m g h = absurd h
whole-or-not Rest (frame.Length n) m g h = absurd h
whole-or-not Rest frame.Chunked m g h = absurd h

-- ---- what holds whatever was read

length_gives : (p : Place) (m : List ℕ) → length (gives p m) ≤ length m
length_gives p [] = omega arith
length_gives p (b ∷ m) =
    let rest = length_gives (step p b) m in
    ⊎_elim
    (λ t. let l : length (gives p (b ∷ m)) ≡ suc (length (gives (step p b) m)) = rw t refl in omega (arith, l, rest))
    (λ t. let l : length (gives p (b ∷ m)) ≡ length (gives (step p b) m) = rw t refl in omega (arith, l, rest))
    (cases_Bool (is_content p))

pub chunks_taken : (p q : Place) (t : Taken) (piece : List ℕ) → TakesChunks p q piece t → IsTaken t (Chunks q) piece
chunks_taken p q (Got body used) piece h = (
  h.within,
  omega (arith, length_gives p (take used piece), ap length h.content, length-take-le used piece h.within),
  λ none some. h.rests (sym h.content ∙ ap (λ n. gives p (take n piece)) none) (omega (arith, none, some)),
)
chunks_taken p q (Bad at) piece h = h.0.within
