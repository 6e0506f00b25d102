-- Where a recording ends. A offset is that of a byte, counted from 0.
use Rattle.std.specs.Prelude.{ℕ, ◌+◌, Bool, true, false, [], ◌∷◌, length, if◌then◌else◌}
use Rattle.http_exchange.specs.declared.refusals.BadKind.{BadKind}
use Rattle.http_exchange.specs.declared.refusals.BadKind.TheVariants.{BadChunk}
use Rattle.exchanges.specs.Heads.{Heads, is_to_end}
use Rattle.orb_engine.specs.Recording as cut
use Rattle.orb_engine.specs.Recording.{Tail, Recording, exchanges_text}

pub data End : Type 0 where
  -- the bytes may go on
  Open : End
  -- after a whole exchange, or before the first
  Done : End
  Bad : BadKind → (offset : ℕ) → End
  -- inside the exchange that begins there
  Cut : (offset : ℕ) → End
  HeadLimit : (offset : ℕ) → End
  MediaFull : (offset : ℕ) → End

abbrev pub if_ended : Bool → End → End
if_ended true stop = stop
if_ended false stop = Open

-- the offset of the response head in an exchange that begins at the offset
abbrev pub response_offset : (offset : ℕ) → Heads → ℕ
response_offset offset h = offset + length h.request.bytes

-- where a recording ends, by what stands after its whole exchanges at the offset; a body that runs to the end of the
-- input is whole there
abbrev pub stop_at : (offset : ℕ) → (ended : Bool) → Tail → End
stop_at offset ended (cut.InRequestHead []) = if_ended ended Done
stop_at offset ended (cut.InRequestHead (b ∷ head)) = if_ended ended (Cut offset)
stop_at offset ended (cut.InResponseHead r head) = if_ended ended (Cut offset)
stop_at offset ended (cut.InBody h sent body) =
    if_ended ended (if is_to_end h.response.frame then Done else Cut offset)
stop_at offset ended (cut.LongRequest head) = HeadLimit offset
stop_at offset ended (cut.BadRequest head kind) = Bad kind offset
stop_at offset ended (cut.FullTable r) = MediaFull offset
stop_at offset ended (cut.LongResponse r head) = HeadLimit (offset + length r.bytes)
stop_at offset ended (cut.BadResponse r head kind) = Bad kind (offset + length r.bytes)
stop_at offset ended (cut.BadBody h sent body b) =
    Bad BadChunk (response_offset offset h + (length h.response.bytes + length sent))

-- the end of a recording, of which no more comes where it has ended
unfoldable pub stop_of : Recording → (ended : Bool) → End
stop_of r ended = stop_at (length (exchanges_text r.exchanges [])) ended r.tail
