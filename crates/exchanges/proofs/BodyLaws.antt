-- What begins a body and what doesn't, over two cuttings of the same bytes.
use Rattle.std.proofs.Common.{◌≡◌, ℕ, ◌+◌, List, [], ◌∷◌, ◌++◌, ◌⊎◌, inl, inr, refl, sym, ap, subst, ◌∙◌, arith, append_assoc, length}
use Rattle.std.proofs.lemmas.List.{append-nil, length-append}
use Rattle.http_exchange.specs.Frames.{IsBodyPrefix, IsWhole}
use Rattle.http_exchange.specs.declared.frames.BodyFrame.{BodyFrame}
use Rattle.http_exchange.proofs.UnframerLemmas.{one_prefix, shorter_prefix, last_byte}

-- the second list goes on from the first, and what follows the first begins with the difference
pub record GoesOn (m r n q : List ℕ) : Type 0 where
  pub more : List ℕ
  pub prefix : n ≡ m ++ more
  pub rest : r ≡ more ++ q

-- of two lists that the same list begins with, one goes on from the other
pub one_goes_on : (m r n q : List ℕ) → m ++ r ≡ n ++ q → GoesOn m r n q ⊎ GoesOn n q m r
one_goes_on [] r n q e = inl (record { more = n; prefix = refl; rest = e })
one_goes_on (b ∷ m) r [] q e = inr (record { more = b ∷ m; prefix = refl; rest = sym e })
one_goes_on (b ∷ m) r (c ∷ n) q e =
    let first : b ≡ c = cc in
    let others : m ++ r ≡ n ++ q = cc in
    elim (one_goes_on m r n q others) [
      | inl g ↦ inl (record { more = g.more; prefix = ap (λ a. a ∷ n) (sym first) ∙ ap (λ l. b ∷ l) g.prefix; rest = g.rest })
      | inr g ↦ inr (record { more = g.more; prefix = ap (λ a. a ∷ m) first ∙ ap (λ l. c ∷ l) g.prefix; rest = g.rest })
    ]

-- ---- prefixes

-- the content of a longer prefix goes on from that of a shorter one
pub longer_prefix : (f : BodyFrame) (m more g h : List ℕ) → IsBodyPrefix f m g → IsBodyPrefix f (m ++ more) h
    → (rest : List ℕ) × (h ≡ g ++ rest)
longer_prefix f m more g h x y =
    let s = shorter_prefix f m more h y in (s.1, s.3 ∙ ap (λ l. l ++ s.1) (one_prefix f m s.0 g s.2 x))

-- the next byte doesn't follow
abbrev pub IsStuck : BodyFrame → List ℕ → ℕ → Type 0
IsStuck f n b = (g : List ℕ) → IsBodyPrefix f (n ++ (b ∷ [])) g → ⊥

stuck_by : (f : BodyFrame) (n q m r g more : List ℕ) (b : ℕ) → IsStuck f n b → IsBodyPrefix f m g
    → m ≡ n ++ more → b ∷ q ≡ more ++ r → (k : List ℕ) × (n ≡ m ++ k)
stuck_by f n q m r g [] b stuck x prefix rest = ([], sym (append-nil m ∙ prefix ∙ append-nil n))
stuck_by f n q m r g (c ∷ k) b stuck x prefix rest =
    let byte : c ≡ b = cc in
    let is : m ≡ (n ++ (b ∷ [])) ++ k =
    prefix ∙ ap (λ a. n ++ (a ∷ k)) byte ∙ sym (append_assoc n (b ∷ []) k) in
    let s = shorter_prefix f (n ++ (b ∷ [])) k g (subst (λ l. IsBodyPrefix f l g) is x) in
    absurd (stuck s.0 s.2)

-- so a prefix of such bytes goes no further
pub within_stuck : (f : BodyFrame) (m r n q g : List ℕ) (b : ℕ) → IsStuck f n b → IsBodyPrefix f m g
    → m ++ r ≡ n ++ (b ∷ q) → (k : List ℕ) × (n ≡ m ++ k)
within_stuck f m r n q g b stuck x e =
    elim (one_goes_on m r n (b ∷ q) e) [
      | inl h ↦ (h.more, h.prefix)
      | inr h ↦ stuck_by f n q m r g h.more b stuck x h.prefix h.rest
    ]

-- ---- ends of bodies

-- two whole bodies that begin the same bytes
pub same_whole : (f : BodyFrame) (m r n q g h : List ℕ) → IsWhole f m → IsWhole f n → IsBodyPrefix f m g → IsBodyPrefix f n h
    → m ++ r ≡ n ++ q → m ≡ n
same_whole f m r n q g h v w x y e =
    elim (one_goes_on m r n q e) [
      | inl k ↦
          let none : k.more ≡ [] = last_byte f m k.more h v (subst (λ l. IsBodyPrefix f l h) k.prefix y) in
          sym (k.prefix ∙ ap (λ l. m ++ l) none ∙ append-nil m)
      | inr k ↦
          let none : k.more ≡ [] = last_byte f n k.more g w (subst (λ l. IsBodyPrefix f l g) k.prefix x) in
          k.prefix ∙ ap (λ l. n ++ l) none ∙ append-nil n
    ]

-- a whole body doesn't go on
pub whole_not_open : (f : BodyFrame) (m r n c : List ℕ) → IsWhole f m → IsBodyPrefix f n c → (IsWhole f n → ⊥) → m ++ r ≡ n → ⊥
whole_not_open f m r n c whole y unfinished e =
    let none : r ≡ [] = last_byte f m r c whole (subst (λ l. IsBodyPrefix f l c) (sym e) y) in
    unfinished (subst (IsWhole f) (sym (append-nil m) ∙ ap (λ l. m ++ l) (sym none) ∙ e) whole)

-- ---- bodies with a byte that doesn't follow

pub whole_not_stuck : (f : BodyFrame) (m r n q g c : List ℕ) (b : ℕ) → IsWhole f m → IsBodyPrefix f m g → IsBodyPrefix f n c
    → (IsWhole f n → ⊥) → IsStuck f n b → m ++ r ≡ n ++ (b ∷ q) → ⊥
whole_not_stuck f m r n q g c b whole x y unfinished stuck e =
    let k = within_stuck f m r n q g b stuck x e in
    whole_not_open f m k.0 n c whole y unfinished (sym k.1)

pub open_not_stuck : (f : BodyFrame) (m n q g : List ℕ) (b : ℕ) → IsBodyPrefix f m g → IsStuck f n b → m ≡ n ++ (b ∷ q) → ⊥
open_not_stuck f m n q g b x stuck e =
    let k = within_stuck f m [] n q g b stuck x (append-nil m ∙ e) in
    let long : length m ≡ length n + length (b ∷ q) = ap length e ∙ length-append n (b ∷ q) in
    let short : length n ≡ length m + length k.0 = ap length k.1 ∙ length-append m k.0 in
    absurd (omega (arith, long, short))

-- two such bodies of the same bytes
pub same_stuck : (f : BodyFrame) (m r n q g c : List ℕ) (b d : ℕ) → IsStuck f m b → IsStuck f n d → IsBodyPrefix f m g
    → IsBodyPrefix f n c → m ++ (b ∷ r) ≡ n ++ (d ∷ q) → (m ≡ n) × (g ≡ c)
same_stuck f m r n q g c b d first second x y e =
    let k = within_stuck f m (b ∷ r) n q g d second x e in
    let l = within_stuck f n (d ∷ q) m r c b first y (sym e) in
    let up : length n ≡ length m + length k.0 = ap length k.1 ∙ length-append m k.0 in
    let down : length m ≡ length n + length l.0 = ap length l.1 ∙ length-append n l.0 in
    let none : length k.0 ≡ 0 = omega (arith, up, down) in
    let same : m ≡ n = sym (k.1 ∙ ap (λ z. m ++ z) (is_nil k.0 none) ∙ append-nil m) in
    (same, one_prefix f m g c x (subst (λ z. IsBodyPrefix f z c) (sym same) y))
  where
    is_nil : (z : List ℕ) → length z ≡ 0 → z ≡ []
    is_nil [] h = refl
    is_nil (a ∷ z) h = absurd (omega (arith, h))
