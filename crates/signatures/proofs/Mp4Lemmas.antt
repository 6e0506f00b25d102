-- The signature of MP4 and its test.
use Rattle.std.proofs.Common.{◌≡◌, ℕ, ◌+◌, ◌%◌, ◌<◌, ◌≤◌, ◌⊎◌, inl, inr, Bool, true, false, ◌&&◌, ◌||◌, ◌==◌, nat_le, List, length, codes, Decides, refl, sym, ap, ◌∙◌, arith}
use Rattle.std.proofs.lemmas.Bool.Decides.{nat_tests, Decides-eqb, Decides-and, Decides-or, Decides-like}
use Rattle.signatures.specs.Patterns.{stands_at}
use Rattle.signatures.specs.Mp4.{IsMp4, IsBrandOffset, box_size, is_compatible_mp4, has_compatible_mp4, is_mp4_window}
use Rattle.signatures.proofs.PlaceLemmas.{some_below-Decides}

pub leb-Decides : (a b : ℕ) → Decides (nat_le a b) (a ≤ b)
leb-Decides a b = (λ is. grind (arith, nat_tests), λ is. grind (arith, nat_tests))

-- the test of one offset
pub compatible-Decides : (window : List ℕ) (offset : ℕ)
    → Decides (is_compatible_mp4 window offset) (((16 ≤ offset) × (offset % 4 ≡ 0)) × (stands_at (codes "mp4") offset window ≡ true))
compatible-Decides window offset =
    Decides-and (nat_le 16 offset && offset % 4 == 0) (stands_at (codes "mp4") offset window)
    (Decides-and (nat_le 16 offset) (offset % 4 == 0) (leb-Decides 16 offset) (Decides-eqb (offset % 4) 0))
    (λ is. is, λ is. is)

fails : {P : Type 0} (b : Bool) → Decides b P → ¬ P → b ≡ false
fails true tells never = absurd (never (tells.0 refl))
fails false tells never = refl

-- no compatible brand from an offset up to the next is `mp4`, where none stands at the offset
pub none_after : (window : List ℕ) (offset k : ℕ) → offset % 4 ≡ 0 → stands_at (codes "mp4") offset window ≡ false
    → offset ≤ k → k < offset + 4 → is_compatible_mp4 window k ≡ false
none_after window offset k aligned none from below =
    fails (is_compatible_mp4 window k) (compatible-Decides window k)
    (λ is. let same : k ≡ offset = omega (arith, is.0.1) in
    let there : true ≡ false = sym is.1 ∙ ap (λ p. stands_at (codes "mp4") p window) same ∙ none in cc)

pub none_before : (window : List ℕ) (k : ℕ) → k < 16 → is_compatible_mp4 window k ≡ false
none_before window k below =
    fails (is_compatible_mp4 window k) (compatible-Decides window k) (λ is. absurd (omega (arith, is.0.0)))

abbrev Brand : List ℕ → Type 0
Brand window = (offset : ℕ) × IsBrandOffset (box_size window) offset × (stands_at (codes "mp4") offset window ≡ true)

brand-Decides : (window : List ℕ)
    → Decides (stands_at (codes "mp4") 8 window || has_compatible_mp4 (box_size window) window) (Brand window)
brand-Decides window =
    Decides-like (stands_at (codes "mp4") 8 window || has_compatible_mp4 (box_size window) window) to from
    (Decides-or (stands_at (codes "mp4") 8 window) (has_compatible_mp4 (box_size window) window) (λ is. is, λ is. is)
    (some_below-Decides (is_compatible_mp4 window) (box_size window))) where
      to : (stands_at (codes "mp4") 8 window ≡ true)
          ⊎ ((k : ℕ) × (k < box_size window) × (is_compatible_mp4 window k ≡ true)) → Brand window
      to (inl major) = (8, inl refl, major)
      to (inr more) =
          let facts = (compatible-Decides window more.0).0 more.2 in
          (more.0, inr (facts.0.0, facts.0.1, more.1), facts.1)

      from : Brand window → (stands_at (codes "mp4") 8 window ≡ true)
          ⊎ ((k : ℕ) × (k < box_size window) × (is_compatible_mp4 window k ≡ true))
      from (offset, inl major, is) = inl (ap (λ p. stands_at (codes "mp4") p window) (sym major) ∙ is)
      from (offset, inr more, is) = inr (offset, more.2, (compatible-Decides window offset).1 ((more.0, more.1), is))

pub mp4-Decides : (window : List ℕ) → Decides (is_mp4_window window) (IsMp4 window)
unfolding is_mp4_window
mp4-Decides window =
    Decides-like (is_mp4_window window)
    (λ is. record {
      long = is.0;
      aligned = is.1.0;
      inside = is.1.1.0;
      box = is.1.1.1.0;
      offset = is.1.1.1.1.0;
      brand = is.1.1.1.1.1;
      mp4 = is.1.1.1.1.2;
    })
    (λ is. (is.long, (is.aligned, (is.inside, (is.box, (is.offset, is.brand, is.mp4))))))
    (Decides-and (nat_le 12 (length window)) _ (leb-Decides 12 (length window))
    (Decides-and (box_size window % 4 == 0) _ (Decides-eqb (box_size window % 4) 0)
    (Decides-and (nat_le (box_size window) (length window)) _ (leb-Decides (box_size window) (length window))
    (Decides-and (stands_at (codes "ftyp") 4 window) _ (λ is. is, λ is. is) (brand-Decides window)))))
