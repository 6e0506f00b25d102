-- What a reader of a text has found so far: a tree with which the text begins, and the rest after it.
use Rattle.std.specs.Prelude.{◌≡◌, ℕ, true, ◌&&◌, not, if◌then◌else◌, List, [], ◌∷◌, ◌++◌, Option, Some, None}
use Rattle.orb_bytes.specs.Ascii.{solidus}
use Rattle.orb_bytes.specs.Bytes.{AllPass, is_http_whitespace}
use Rattle.orb_bytes.specs.Trim.{trimmed}
use Rattle.mime_types.specs.Spans.{begins_outside}
use Rattle.mime_types.specs.Mime.{is_token, Assigned, assigned_text, is_assigned, is_last, is_no_semicolon, Segment, segment_text, is_segment, segments_text, are_segments, is_parameter, parameters_of}
use Rattle.mime_types.specs.Records.{has_name}

-- the text writes this type and subtype, and then the tail, which is empty or begins with `;`
pub record ReadsEssence (text main sub tail : List ℕ) : Type 0 where
  pub space : List ℕ
  pub whole : trimmed is_http_whitespace text ≡ main ++ (solidus ∷ (sub ++ (space ++ tail)))
  pub is_main : is_token main ≡ true
  pub is_sub : is_token sub ≡ true
  pub is_space : AllPass is_http_whitespace space
  pub begins : begins_outside is_no_semicolon tail ≡ true

-- after a name the text is what the name is assigned, and the rest
pub record ReadsAssigned (text : List ℕ) (assigned : Assigned) (rest : List ℕ) : Type 0 where
  pub valid : is_assigned assigned ≡ true
  pub last : is_last assigned ≡ true → rest ≡ []
  pub begins : begins_outside is_no_semicolon rest ≡ true
  pub whole : text ≡ assigned_text assigned ++ rest

-- the text is the segment, and the rest
pub record ReadsSegment (text : List ℕ) (s : Segment) (rest : List ℕ) : Type 0 where
  pub valid : is_segment s ≡ true
  pub last : is_last s.assigned ≡ true → rest ≡ []
  pub begins : begins_outside is_no_semicolon rest ≡ true
  pub whole : text ≡ segment_text s ++ rest

-- the text is segments that stand for these parameters
abbrev pub ReadsParameters : List ℕ → List (List ℕ × List ℕ) → Type 0
ReadsParameters text pairs =
    (segments : List Segment) × (are_segments segments ≡ true) × (text ≡ segments_text segments)
    × (pairs ≡ parameters_of segments)

-- the pairs kept so far, and one more where it is a parameter of a new name
abbrev pub kept_with : List (List ℕ × List ℕ) → Option (List ℕ × List ℕ) → List (List ℕ × List ℕ)
kept_with kept None = kept
kept_with kept (Some pair) =
    if is_parameter pair && not (has_name pair.0 kept) then kept ++ pair ∷ [] else kept
