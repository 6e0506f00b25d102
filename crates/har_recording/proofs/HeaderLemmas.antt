-- The lines of headers, one after the other.
use Rattle.std.proofs.Common.{◌≡◌, ℕ, true, false, List, [], ◌∷◌, ◌++◌, refl, sym, ap, ◌∙◌, append_assoc, append-nil}
use Rattle.std.specs.Prelude.{filter}
use Rattle.std.specs.List.{flat_map}
use Rattle.std.proofs.lemmas.Grind.{flat_map-append}
use Rattle.http_exchange.specs.Messages.{field_line}
use Rattle.har_recording.specs.declared.entries.Header.{Header}
use Rattle.har_recording.specs.Recorded.{is_kept}
use Rattle.har_recording.specs.Seen.{header_in, headers_in}

-- the lines of those that are kept
pub lines : List Header → List ℕ
lines headers = flat_map field_line (filter is_kept (headers_in headers))

pub lines-are : (headers : List Header) → lines headers ≡ flat_map field_line (filter is_kept (headers_in headers))
unfolding lines
lines-are headers = refl

pub no_lines : lines [] ≡ []
unfolding lines
no_lines = refl

pub kept : (h : Header) (headers : List Header) → is_kept (header_in h) ≡ true
    → lines (h ∷ headers) ≡ field_line (header_in h) ++ lines headers
unfolding lines
kept h headers is = rw is refl

pub dropped : (h : Header) (headers : List Header) → is_kept (header_in h) ≡ false → lines (h ∷ headers) ≡ lines headers
unfolding lines
dropped h headers is = rw is refl

-- what was written before them, and their lines, where the first is kept
pub step_kept : (all done new : List ℕ) (headers next : List Header) (h : Header) → done ++ lines headers ≡ all → headers ≡ h ∷ next
    → is_kept (header_in h) ≡ true → new ≡ done ++ field_line (header_in h) → new ++ lines next ≡ all
step_kept all done new headers next h is first kept_ wrote =
    ap (λ w. w ++ lines next) wrote
    ∙ append_assoc done (field_line (header_in h)) (lines next)
    ∙ ap (λ w. done ++ w) (sym (kept h next kept_))
    ∙ ap (λ hs. done ++ lines hs) (sym first)
    ∙ is

-- and where it is not
pub step_dropped : (all done new : List ℕ) (headers next : List Header) (h : Header) → done ++ lines headers ≡ all → headers ≡ h ∷ next
    → is_kept (header_in h) ≡ false → new ≡ done → new ++ lines next ≡ all
step_dropped all done new headers next h is first dropped_ wrote =
    ap (λ w. w ++ lines next) wrote
    ∙ ap (λ w. done ++ w) (sym (dropped h next dropped_))
    ∙ ap (λ hs. done ++ lines hs) (sym first)
    ∙ is

-- and where there is none
pub step_last : (all done : List ℕ) (headers : List Header) → done ++ lines headers ≡ all → headers ≡ [] → done ≡ all
step_last all done headers is none =
    sym (append-nil done) ∙ ap (λ w. done ++ w) (sym no_lines) ∙ ap (λ hs. done ++ lines hs) (sym none) ∙ is

-- the lines of fields, and that of one more
pub lines_and_one : (old : List ℕ) (fields : List (List ℕ × List ℕ)) (f : List ℕ × List ℕ)
    → (old ++ flat_map field_line fields) ++ field_line f ≡ old ++ flat_map field_line (fields ++ (f ∷ []))
lines_and_one old fields f =
    append_assoc old (flat_map field_line fields) (field_line f)
    ∙ ap (λ l. old ++ (flat_map field_line fields ++ l)) (sym (append-nil (field_line f)))
    ∙ ap (λ l. old ++ l) (sym (flat_map-append field_line fields (f ∷ [])))
