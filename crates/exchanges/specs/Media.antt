-- What the table of media states answers a request.
use Rattle.std.specs.Prelude.{◌≡◌, Result, Ok, Err}
use Rattle.media_state.specs.Table.{States, admits, IsRefusedId}
use Rattle.media_state.specs.declared.states.MediaState.{MediaState}
use Rattle.media_state.specs.declared.table.Full.{Full}
use Rattle.http_exchange.specs.declared.request.RequestHead.{RequestHead}
use Rattle.exchanges.specs.Heads.{id_of, state_before}

-- its id is kept, and this is the state that it finds; or there is no room for the id
abbrev pub EntersFor : (before after : States) → RequestHead → Result MediaState Full → Type 0
EntersFor before after asks (Ok state) =
    (state ≡ state_before before asks) × (after ≡ admits before (id_of asks)) × (IsRefusedId before (id_of asks) → ⊥)
EntersFor before after asks (Err full) = IsRefusedId before (id_of asks) × (after ≡ before)
