-- The state of a media resource of which ranges are asked.
use Rattle.std.specs.Prelude.{ℕ, Bool, true, false, ◌&&◌, ◌||◌, List, ◌++◌, codes, decimal, Option, Some, None, if◌then◌else◌}
use Rattle.media_state.specs.declared.states.MediaState.{MediaState}
use Rattle.media_state.specs.declared.states.MediaState.TheVariants.{Na, Initial, Subsequent}

-- responses of the resource were let through as media, and its complete length isn't kept
abbrev pub keeps_no_length : MediaState → Bool
keeps_no_length Na = false
keeps_no_length Initial = false
keeps_no_length (Subsequent None) = true
keeps_no_length (Subsequent (Some length)) = false

-- The state after a response, by whether it was let through as media or as a later part of the resource, and by the
-- complete length that it states. The first keeps that length; a later part does so where none is kept.
abbrev pub state_after : MediaState → (was_media was_subsequent : Bool) → (complete : Option ℕ) → MediaState
state_after state was_media was_subsequent complete =
    if was_media || (was_subsequent && keeps_no_length state) then Subsequent complete else state

-- its name in reports
abbrev pub name_of : MediaState → List ℕ
name_of Na = codes "na"
name_of Initial = codes "initial"
name_of (Subsequent None) = codes "subsequent"
name_of (Subsequent (Some length)) = codes "subsequent:" ++ decimal length
