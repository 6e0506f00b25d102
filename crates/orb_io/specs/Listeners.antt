-- What a listener does with the links that it hands out and takes back.
use Rattle.std.specs.Prelude.{◌≡◌, ℕ, ◌+◌, true, false, ⊤, Option, Some, None, Result, Ok, Err}
use Rattle.orb_io.specs.Counts.{one_more}
use Rattle.orb_io.specs.Memory.{LinkState}
use Rattle.orb_io.specs.Links.{LinksState, fails_next, called, HandsNext}

-- an `Ok` raised the number of links handed out by one, where it is told, and an `Err` left it
abbrev pub HandsOut : {T E : Type 0} → Option ℕ → Option ℕ → Result T E → Type 0
HandsOut None None result = ⊤
HandsOut None (Some after) result = ⊥
HandsOut (Some before) None result = ⊥
HandsOut (Some before) (Some after) (Ok link) = after ≡ before + 1
HandsOut (Some before) (Some after) (Err failed) = after ≡ before

-- the faults of a listener that tells nothing else, up to the last u64
pub record ListenerFaults : Type 0 where
  pub bind_faults : ℕ
  pub accept_faults : ℕ

-- a listener in memory: its links, whose calls are those of `bind` and of `accept`, how many were handed out, and how
-- many faults of each kind there were
pub record ListenerState : Type 0 where
  pub links : LinksState
  pub handed : ℕ
  pub bind_faults : ℕ
  pub accept_faults : ℕ

-- what `bind` does: it fails exactly where its number is one that does
abbrev pub BindsInMemory : {T E : Type 0} → ListenerState → ListenerState → Result T E → Type 0
BindsInMemory s s' (Ok done) = (fails_next s.links ≡ false) × (s' ≡ record s { links = called s.links })
BindsInMemory s s' (Err failed) =
    (fails_next s.links ≡ true)
    × (s' ≡ record s { links = called s.links; bind_faults = one_more s.bind_faults })

-- what `accept` does: it hands out the next link, or fails
abbrev pub AcceptsInMemory : {E : Type 0} → ListenerState → ListenerState → Result LinkState E → Type 0
AcceptsInMemory s s' (Ok link) =
    HandsNext {E = Unit {0}} s.links s'.links (Ok link) × (s' ≡ record s { links = s'.links; handed = s.handed + 1 })
AcceptsInMemory s s' (Err failed) =
    HandsNext s.links s'.links (Err failed)
    × (s' ≡ record s { links = s'.links; accept_faults = one_more s.accept_faults })
