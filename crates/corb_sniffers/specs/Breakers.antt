-- Parser breakers: what a server writes before data so that it is no script (the CORB explainer).
use Rattle.std.specs.Prelude.{◌≡◌, ℕ, List, [], ◌∷◌, ◌++◌, codes}
use Rattle.corb_sniffers.specs.Texts.{IsListed}
use Rattle.orb_bytes.specs.Bytes.{AllPass, is_whitespace_byte}

abbrev pub breakers : List (List ℕ)
breakers = codes ")]}'" ∷ codes "{}&&" ∷ codes "{} &&" ∷ codes "for(;;);" ∷ codes "while(1);" ∷ []

-- the text begins with a breaker
pub record BeginsWithBreaker (text : List ℕ) : Type 0 where
  pub breaker : List ℕ
  pub listed : IsListed breakers breaker
  pub rest : List ℕ
  pub cut : text ≡ breaker ++ rest

-- the window is white space and then what begins with a breaker
pub record HasBreaker (window : List ℕ) : Type 0 where
  pub spaces : List ℕ
  pub space : AllPass is_whitespace_byte spaces
  pub rest : List ℕ
  pub begins : BeginsWithBreaker rest
  pub cut : window ≡ spaces ++ rest
