-- What leaves a text without its leading bytes of a class.
use Rattle.std.proofs.Common.{◌≡◌, ℕ, Bool, false, List, [], ◌∷◌, ◌≤◌, length, sym, ap, ◌∙◌, inl, inr, arith}
use Rattle.std.proofs.lemmas.Bool.{cases_Bool}
use Rattle.orb_bytes.specs.Trim.{without_leading}
use Rattle.orb_bytes.proofs.TrimLemmas.{without_leading-more, without_leading-stop}

pub leading_outside : (test : ℕ → Bool) (text : List ℕ) (b : ℕ) (rest : List ℕ) → without_leading test text ≡ b ∷ rest → test b ≡ false
leading_outside test [] b rest is = absurd (cc)
leading_outside test (c ∷ text) b rest is =
    elim (cases_Bool (test c)) [
      | inl inside ↦ leading_outside test text b rest (sym (without_leading-more test c text inside) ∙ is)
      | inr outside ↦
          let both : c ∷ text ≡ b ∷ rest = sym (without_leading-stop test c text outside) ∙ is in
          let same : c ≡ b = cc in
          ap test (sym same) ∙ outside
    ]

pub leading_length : (test : ℕ → Bool) (text : List ℕ) → length (without_leading test text) ≤ length text
leading_length test [] = omega arith
leading_length test (b ∷ text) =
    elim (cases_Bool (test b)) [
      | inl inside ↦ rw (without_leading-more test b text inside) (omega (arith, leading_length test text))
      | inr outside ↦ rw (without_leading-stop test b text outside) (omega arith)
    ]
