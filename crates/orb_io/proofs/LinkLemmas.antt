-- Places of links in memory.
use Rattle.std.proofs.Common.{◌≡◌, ℕ, ◌<◌, ◌≤◌, true, false, List, length, get_or, Option, Some, None, refl, sym}
use Rattle.std.proofs.lemmas.List.{get_or_read_under}
use Rattle.std.specs.Prelude.{is_some}
use Rattle.orb_io.specs.Memory.{LinkState}
use Rattle.orb_io.specs.Links.{HasNoneIn, IsFirstPlace}

-- what was read at a place and is a link, is the first one
pub first_there : (links : List (Option LinkState)) (from place : ℕ) (read : Option LinkState)
    → from ≤ place → place < length links → read ≡ get_or links place read → is_some read ≡ true → HasNoneIn links from place
    → IsFirstPlace links from (Some place)
first_there links from place None later within is there none = absurd (let no : false ≡ true = there in cc)
first_there links from place (Some link) later within is there none = (
  link,
  record {
    from_there = later;
    stands = sym (get_or_read_under links place (length links) (Some link) None is within refl);
    first = none;
  },
)
