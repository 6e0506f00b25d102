-- A table of media states: a finite map from ids to states, of at most 4,096 ids.
use Rattle.std.specs.Prelude.{◌≡◌, ℕ, true, false, Option, Some, None, Result, Ok, Err, if◌then◌else◌, unwrap_or}
use Rattle.std.specs.Ordering.{nat_cmp}
use Rattle.std.specs.FinMap as map
use Rattle.media_state.specs.declared.states.MediaState.{MediaState}
use Rattle.media_state.specs.declared.table.Full.{Full}
use Rattle.media_state.specs.declared.states.MediaState.TheVariants.{Initial}

-- the state that is kept of each id
abbrev pub States : Type 0
States = map.FinMap nat_cmp MediaState

-- the table with the id kept: one that is kept stays, and a new one is Initial
abbrev pub admitted : States → ℕ → States
admitted table id = if map.contains_key table id then table else map.insert table id Initial

-- there is no room for the id: 4,096 others are kept
abbrev pub HasNoRoom : States → ℕ → Type 0
HasNoRoom table id = (map.contains_key table id ≡ false) × (map.len table ≡ 4096)

-- a request for media has an id, or none: then each is the first of its resource

-- the table with the id kept
abbrev pub admits : States → Option ℕ → States
admits table None = table
admits table (Some id) = admitted table id

-- the state that a request for media with the id finds
abbrev pub kept_state : States → Option ℕ → MediaState
kept_state table None = Initial
kept_state table (Some id) = unwrap_or (map.get (admitted table id) id) Initial

-- the table with the id's state set
abbrev pub keeps : States → Option ℕ → MediaState → States
keeps table None state = table
keeps table (Some id) state = map.insert (admitted table id) id state

-- the id can't be kept, since too many others are
abbrev pub IsRefusedId : States → Option ℕ → Type 0
IsRefusedId table None = ⊥
IsRefusedId table (Some id) = HasNoRoom table id

-- the id is kept, and this is the state that the request finds; or there is no room for the id
abbrev pub Enters : (before after : States) → Option ℕ → Result MediaState Full → Type 0
Enters before after id (Ok state) = (state ≡ kept_state before id) × (after ≡ admits before id) × (IsRefusedId before id → ⊥)
Enters before after id (Err full) = IsRefusedId before id × (after ≡ before)

-- there is no id, or the table has it
abbrev pub IsKept : States → Option ℕ → Type 0
IsKept table None = Unit {0}
IsKept table (Some id) = map.contains_key table id ≡ true

-- the table with the state of the id
abbrev pub stored : States → Option ℕ → MediaState → States
stored table None state = table
stored table (Some id) state = map.insert table id state
