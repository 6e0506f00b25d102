-- The run of records that was met last.
use Rattle.std.specs.Prelude.{◌≡◌, ℕ, List, [], ◌∷◌, Option, Some, None, option_to_list, if◌then◌else◌}
use Rattle.mime_types.specs.Mime.{Mime}
use Rattle.header_values.specs.declared.run.Run.{Run}
use Rattle.header_values.specs.Cuts.{parts_of}
use Rattle.header_values.specs.Extracted.{HaveRecords, kept_of, same_essence, last_run, charset_of, with_charset, last_of, extracted_of}

-- the run with one record more
abbrev pub run_with : Option Run → Mime → Run
run_with None mime = record { first = mime; last = None }
run_with (Some run) mime =
    if same_essence mime run.first then record { first = run.first; last = Some mime }
    else record { first = mime; last = None }

-- the run after one record more, if there is one
abbrev pub run_after : Option Run → Option Mime → Option Run
run_after run None = run
run_after run (Some mime) = Some (run_with run mime)

-- the answer of a first and a last record
abbrev pub answer_by : Mime → Option Mime → Mime
answer_by first None = first
answer_by first (Some last) = with_charset (charset_of first) last

abbrev pub answer_in : Run → Mime
answer_in run = answer_by run.first run.last

-- the last of the records, if there is one
abbrev pub last_in : List Mime → Option Mime
last_in [] = None
last_in (mime ∷ mimes) = Some (last_of mime mimes)

-- the run is the last of these records
abbrev pub IsRunOf : List Mime → Option Run → Type 0
IsRunOf mimes None = mimes ≡ []
IsRunOf mimes (Some run) =
    (others : List Mime) × (last_run mimes ≡ run.first ∷ others) × (run.last ≡ last_in others)

-- the record of the text, if it is kept
abbrev pub IsKeptMime : List ℕ → Option Mime → Type 0
IsKeptMime text mime =
    (records : List (Option Mime)) × HaveRecords (text ∷ []) records
    × (kept_of records ≡ option_to_list mime)

-- what the parts of the value state
abbrev pub IsLastMime : List ℕ → Option Mime → Type 0
IsLastMime value answer =
    (records : List (Option Mime)) × HaveRecords (parts_of value) records
    × (answer ≡ extracted_of (kept_of records))
