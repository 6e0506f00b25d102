-- The MIME type that the fields of a head state (WHATWG Fetch 2.2: extract a MIME type). The steps named below are those of
-- the standard's algorithm. It goes through the values and keeps a charset and an essence; here the records of the values
-- are a list, of which it answers the last, with the charset of the run of one essence that this one ends.
use Rattle.std.specs.Prelude.{◌≡◌, ℕ, Bool, not, ◌&&◌, if◌then◌else◌, List, [], ◌∷◌, ◌++◌, filter, reverse, take_while, codes, bytes_eq, Option, Some, None, is_some}
use Rattle.std.specs.List.{filter_map}
use Rattle.std.specs.Str.{str_to_ascii_lowercase}
use Rattle.mime_types.specs.Mime.{Mime, IsMime, HasNoMime}
use Rattle.mime_types.specs.Records.{value_of}
use Rattle.header_values.specs.Questions.{parts_under}

-- the text has this record, or none (step 6.1)
abbrev pub HasRecord : List ℕ → Option Mime → Type 0
HasRecord text None = HasNoMime text
HasRecord text (Some mime) = IsMime text mime

-- each text has the record, or none, that stands at its place
abbrev pub HaveRecords : List (List ℕ) → List (Option Mime) → Type 0
HaveRecords [] [] = Unit {0}
HaveRecords [] (record_ ∷ records) = ⊥
HaveRecords (text ∷ texts) [] = ⊥
HaveRecords (text ∷ texts) (record_ ∷ records) = HasRecord text record_ × HaveRecords texts records

-- the essence is `*/*` (step 6.2)
abbrev pub is_any_type : Mime → Bool
is_any_type mime = bytes_eq mime.main (codes "*") && bytes_eq mime.sub (codes "*")

-- the records that there are, but for those of any type (step 6.2)
abbrev pub kept_of : List (Option Mime) → List Mime
kept_of records = filter (λ mime. not (is_any_type mime)) (filter_map (λ mime. mime) records)

-- type and subtype are the same (step 6.4)
abbrev pub same_essence : Mime → Mime → Bool
same_essence m n = bytes_eq m.main n.main && bytes_eq m.sub n.sub

-- the longest prefix of the list whose essences are all equal
abbrev pub first_run : List Mime → List Mime
first_run [] = []
first_run (mime ∷ mimes) = mime ∷ take_while (same_essence mime) mimes

-- the longest end of the list whose essences are all equal: since its first record, step 6.4 held of no other
abbrev pub last_run : List Mime → List Mime
last_run mimes = reverse (first_run (reverse mimes))

-- the value of the parameter `charset` (step 6.4.2)
abbrev pub charset_of : Mime → Option (List ℕ)
charset_of mime = value_of (codes "charset") mime.parameters

-- the record, with the charset as its last parameter where there is one and the record has none (step 6.5)
abbrev pub with_charset : Option (List ℕ) → Mime → Mime
with_charset None mime = mime
with_charset (Some charset) mime =
    if is_some (charset_of mime) then mime
    else record mime { parameters = mime.parameters ++ (codes "charset", charset) ∷ [] }

-- the last of a record and those after it (step 6.3)
abbrev pub last_of : Mime → List Mime → Mime
last_of mime [] = mime
last_of mime (next ∷ mimes) = last_of next mimes

-- the last record of a run, with the charset of the first where it has none (step 8); none of no run (step 7)
abbrev pub answer_of : List Mime → Option Mime
answer_of [] = None
answer_of (mime ∷ mimes) = Some (with_charset (charset_of mime) (last_of mime mimes))

-- the same of the last run of the records
unfoldable pub extracted_of : List Mime → Option Mime
extracted_of mimes = answer_of (last_run mimes)

-- the MIME type that the values of Content-Type state (step 4), or none
abbrev pub IsExtracted : List (List ℕ × List ℕ) → Option Mime → Type 0
IsExtracted fields answer =
    (records : List (Option Mime)) × HaveRecords (parts_under fields (codes "Content-Type")) records
    × (answer ≡ extracted_of (kept_of records))

-- the fields state a MIME type of this type and subtype, but for the case of their letters
abbrev pub IsExtractedEssence : List (List ℕ × List ℕ) → List ℕ → List ℕ → Type 0
IsExtractedEssence fields main sub =
    (mime : Mime) × IsExtracted fields (Some mime)
    × (mime.main ≡ str_to_ascii_lowercase main) × (mime.sub ≡ str_to_ascii_lowercase sub)

-- fields state one MIME type at most
abbrev pub StatesOne : List (List ℕ × List ℕ) → Type 0
StatesOne fields = (a b : Option Mime) → IsExtracted fields a → IsExtracted fields b → a ≡ b
