-- Links that stand ready in memory: how they are handed out, each once, and taken back.
use Rattle.std.specs.Prelude.{◌≡◌, ◌⊎◌, ℕ, zero, suc, ◌+◌, ◌<◌, ◌≤◌, Bool, true, false, List, get_or, set, Option, Some, None, Result, Ok, Err}
use Rattle.orb_io.specs.Counts.{one_more}
use Rattle.orb_io.specs.Memory.{LinkState, fails_at}

-- what stands at the places, the place after that of the last link handed out, the numbers of the calls that fail, and
-- how many calls there were
pub record LinksState : Type 0 where
  pub places : List (Option LinkState)
  pub next : ℕ
  pub fails : List ℕ
  pub calls : ℕ

-- before the first call
abbrev pub links_at_first : List (Option LinkState) → (fails : List ℕ) → LinksState
links_at_first places fails = record { places = places; next = 0; fails = fails; calls = 0 }

-- whether the next call is one that fails
abbrev pub fails_next : LinksState → Bool
fails_next s = fails_at s.fails s.calls

-- the same after one call more
abbrev pub called : LinksState → LinksState
called s = record s { calls = one_more s.calls }

-- what stands at a place, which is nothing past the last
abbrev pub link_at : List (Option LinkState) → ℕ → Option LinkState
link_at places place = get_or places place None

-- no link stands from the one place up to the other
abbrev pub HasNoneIn : List (Option LinkState) → ℕ → ℕ → Type 0
HasNoneIn places from end = (k : ℕ) → from ≤ k → k < end → link_at places k ≡ None

-- no link stands from the place on
abbrev pub HasNoneFrom : List (Option LinkState) → ℕ → Type 0
HasNoneFrom places from = (k : ℕ) → from ≤ k → link_at places k ≡ None

-- the first link from a place on, with where it stands
pub record IsFirstLink (places : List (Option LinkState)) (from place : ℕ) (link : LinkState) : Type 0 where
  pub from_there : from ≤ place
  pub stands : link_at places place ≡ Some link
  pub first : HasNoneIn places from place

-- the first place from this one on at which a link stands
abbrev pub IsFirstPlace : List (Option LinkState) → (from : ℕ) → Option ℕ → Type 0
IsFirstPlace places from (Some place) = (link : LinkState) × IsFirstLink places from place link
IsFirstPlace places from None = HasNoneFrom places from

-- the next link is handed out, and leaves its place empty; none where no link is left
abbrev pub TakesNext : LinksState → LinksState → Option LinkState → Type 0
TakesNext s s' (Some link) = (place : ℕ) × IsFirstLink s.places s.next place link
    × (s' ≡ record s { places = set s.places place None; next = place + 1 })
TakesNext s s' None = HasNoneFrom s.places s.next × (s' ≡ s)

-- A call that is to hand out the next link: it fails exactly where its number is one that does or no link is left.
abbrev pub HandsNext : {E : Type 0} → LinksState → LinksState → Result LinkState E → Type 0
HandsNext s s' (Ok link) = (fails_next s ≡ false) × TakesNext (called s) s' (Some link)
HandsNext s s' (Err failed) = ((fails_next s ≡ true) ⊎ HasNoneFrom s.places s.next) × (s' ≡ called s)

-- the links with this one at the place, where nothing stands there; else as they were
abbrev pub put_back : List (Option LinkState) → (place : ℕ) → Option LinkState → LinkState → List (Option LinkState)
put_back places place None link = set places place (Some link)
put_back places place (Some other) link = places

-- the links with this one at the place from which the last was handed out; as they were where that place isn't
-- empty or none was handed out yet
abbrev pub given_back : List (Option LinkState) → (next : ℕ) → LinkState → List (Option LinkState)
given_back places zero link = places
given_back places (suc last) link = put_back places last (link_at places last) link

-- the same of all that is known of them
abbrev pub links_with : LinksState → LinkState → LinksState
links_with s link = record s { places = given_back s.places s.next link }
