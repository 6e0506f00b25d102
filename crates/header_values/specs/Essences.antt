-- The type and subtype of the records, as texts write them.
use Rattle.std.specs.Prelude.{◌≡◌, ℕ, List, [], ◌∷◌, ◌++◌, Option, Some, None}
use Rattle.std.specs.Str.{str_to_ascii_lowercase}
use Rattle.mime_types.specs.Mime.{Mime}
use Rattle.mime_types.specs.declared.essences.Essence.{Essence}
use Rattle.header_values.specs.Cuts.{parts_of}
use Rattle.header_values.specs.Extracted.{HaveRecords, kept_of}

-- the essence of the last record, and none of no record
abbrev pub EndsWith : List Mime → Option Essence → Type 0
EndsWith mimes None = mimes ≡ []
EndsWith mimes (Some e) =
    (before : List Mime) × (mime : Mime) × (mimes ≡ before ++ mime ∷ [])
    × (mime.main ≡ str_to_ascii_lowercase e.main.now)
    × (mime.sub ≡ str_to_ascii_lowercase e.sub.now)

-- the essence of the last record of the texts that is kept
abbrev pub IsLastOf : List (List ℕ) → Option Essence → Type 0
IsLastOf texts answer =
    (records : List (Option Mime)) × HaveRecords texts records × EndsWith (kept_of records) answer

-- the same of one text
abbrev pub IsKeptEssence : List ℕ → Option Essence → Type 0
IsKeptEssence text answer = IsLastOf (text ∷ []) answer

-- the same of the parts of a value
abbrev pub IsLastEssence : List ℕ → Option Essence → Type 0
IsLastEssence value answer = IsLastOf (parts_of value) answer
