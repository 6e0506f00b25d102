-- XML as the CORB explainer confirms it: white space and then `<?xml`.
use Rattle.std.specs.Prelude.{◌≡◌, List, ℕ, ◌++◌, codes}
use Rattle.orb_bytes.specs.Bytes.{AllPass, is_whitespace_byte}

pub record SniffsXml (window : List ℕ) : Type 0 where
  pub spaces : List ℕ
  pub space : AllPass is_whitespace_byte spaces
  pub rest : List ℕ
  pub cut : window ≡ spaces ++ (codes "<?xml" ++ rest)
