-- What a dialer in memory does with the links that it hands out and takes back.
use Rattle.std.specs.Prelude.{◌≡◌, ℕ, Result, Ok, Err}
use Rattle.orb_io.specs.Counts.{one_more}
use Rattle.orb_io.specs.Memory.{LinkState}
use Rattle.orb_io.specs.Links.{LinksState, HandsNext}

-- its links, whose calls are those of `dial`, and how many faults there were
pub record DialerState : Type 0 where
  pub links : LinksState
  pub faults : ℕ

-- what `dial` does: it hands out the next link, or fails
abbrev pub DialsInMemory : {E : Type 0} → DialerState → DialerState → Result LinkState E → Type 0
DialsInMemory s s' (Ok link) = HandsNext {E = Unit {0}} s.links s'.links (Ok link) × (s' ≡ record s { links = s'.links })
DialsInMemory s s' (Err failed) =
    HandsNext s.links s'.links (Err failed) × (s' ≡ record s { links = s'.links; faults = one_more s.faults })
