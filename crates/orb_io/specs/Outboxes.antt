-- A sink of fixed room in memory, which fails only where it is full.
use Rattle.std.specs.Prelude.{◌≡◌, ◌⊎◌, ℕ, ◌≤◌, List, [], length}

-- how many bytes it has room for
unfoldable pub outbox_room : ℕ
outbox_room = 16384

-- its bytes, and how many pushes failed
pub record OutboxState : Type 0 where
  pub bytes : List ℕ
  pub faults : ℕ

-- nothing is lost of its bytes, and where a push failed it is full
pub record OnlyFills (before after : OutboxState) : Type 0 where
  pub more : length before.bytes ≤ length after.bytes
  pub full : (after.faults ≡ before.faults) ⊎ (outbox_room ≤ length after.bytes)

abbrev pub empty_outbox : OutboxState
empty_outbox = record { bytes = []; faults = 0 }
