-- Pairs kept one by one are the first of each name.
use Rattle.std.proofs.Common.{◌≡◌, ℕ, Bool, true, false, not, ◌&&◌, ◌||◌, List, [], ◌∷◌, ◌++◌, filter, bytes_eq, Some, None, refl, sym, ap, ◌∙◌, append_assoc, append-nil, if◌then◌else◌}
use Rattle.std.specs.List.{list_all, filter_map, cons_option}
use Rattle.std.proofs.lemmas.List.Folds.{list_any-append}
use Rattle.mime_types.specs.Mime.{Segment, segments_text, are_segments, pair_of, is_parameter, first_of_each, parameters_of}
use Rattle.mime_types.specs.Records.{has_name}
use Rattle.mime_types.specs.Reading.{ReadsSegment, ReadsParameters, kept_with}
use Rattle.mime_types.proofs.NameLemmas.{is_new, is_other, same_text, bytes_eq-sym, filter_within, filter_both, filter_all}
use Rattle.mime_types.proofs.ReadingLemmas.{more_segments}

-- each pair of the list in turn
abbrev pub keep_each : List (List ℕ × List ℕ) → List (List ℕ × List ℕ) → List (List ℕ × List ℕ)
keep_each kept [] = kept
keep_each kept (pair ∷ pairs) = keep_each (if is_new kept pair then kept ++ pair ∷ [] else kept) pairs

-- each segment in turn
abbrev pub keep_all : List (List ℕ × List ℕ) → List Segment → List (List ℕ × List ℕ)
keep_all kept [] = kept
keep_all kept (s ∷ segments) = keep_all (kept_with kept (pair_of s)) segments

-- a pair of a name that is kept is another pair than one of a new name
kept_is_other : (kept : List (List ℕ × List ℕ)) (pair other : List ℕ × List ℕ) → has_name pair.0 kept ≡ true
    → is_new kept other ≡ true → is_other pair other ≡ true
kept_is_other kept pair other has new =
    elim (bytes_eq other.0 pair.0) as (λ v. bytes_eq other.0 pair.0 ≡ v → not v ≡ true) [
      | true ↦ λ same. absurd (
          let names : other.0 ≡ pair.0 = same_text other.0 pair.0 same in
          let lie : false ≡ true = sym (ap not (ap (λ name. has_name name kept) names ∙ has)) ∙ new in cc)
      | false ↦ λ differ. refl
    ] refl

new_to_more : (kept : List (List ℕ × List ℕ)) (pair other : List ℕ × List ℕ)
    → is_new (kept ++ pair ∷ []) other ≡ (is_new kept other && is_other pair other)
new_to_more kept pair other =
    ap not (list_any-append (λ p. bytes_eq p.0 other.0) kept (pair ∷ []))
    ∙ ap (λ v. not (has_name other.0 kept || (v || false))) (bytes_eq-sym pair.0 other.0)
    ∙ apart (has_name other.0 kept) (bytes_eq other.0 pair.0) where
      apart : (x y : Bool) → not (x || (y || false)) ≡ (not x && not y)
      apart true y = refl
      apart false true = refl
      apart false false = refl

pub keep_each_is : (kept pairs : List (List ℕ × List ℕ))
    → keep_each kept pairs ≡ kept ++ filter (is_new kept) (first_of_each pairs)
keep_each_is kept [] = sym (append-nil kept)
keep_each_is kept (pair ∷ pairs) =
    elim (has_name pair.0 kept) as (λ v. has_name pair.0 kept ≡ v → keep_each kept (pair ∷ pairs) ≡ kept ++ filter (is_new kept) (first_of_each (pair ∷ pairs))) [
      | true ↦ λ has. rw has
          (keep_each_is kept pairs
          ∙ ap (λ rest. kept ++ rest) (sym (filter_within (is_new kept) (is_other pair) (first_of_each pairs) (λ other. kept_is_other kept pair other has))))
      | false ↦ λ new. rw new
          (keep_each_is (kept ++ pair ∷ []) pairs
          ∙ append_assoc kept (pair ∷ []) (filter (is_new (kept ++ pair ∷ [])) (first_of_each pairs))
          ∙ ap (λ rest. kept ++ (pair ∷ rest)) (sym (filter_both (is_new kept) (is_other pair) (is_new (kept ++ pair ∷ [])) (first_of_each pairs) (new_to_more kept pair))))
    ] refl

pub keep_all_is : (kept : List (List ℕ × List ℕ)) (segments : List Segment)
    → keep_all kept segments ≡ keep_each kept (filter is_parameter (filter_map pair_of segments))
keep_all_is kept [] = refl
keep_all_is kept (s ∷ segments) =
    elim (pair_of s) as (λ v. keep_all (kept_with kept v) segments ≡ keep_each kept (filter is_parameter (cons_option v (filter_map pair_of segments)))) [
      | None ↦ keep_all_is kept segments
      | Some pair ↦ elim (is_parameter pair) as (λ v. is_parameter pair ≡ v → keep_all (kept_with kept (Some pair)) segments ≡ keep_each kept (filter is_parameter (pair ∷ filter_map pair_of segments))) [
        | true ↦ λ is. rw is (keep_all_is (if is_new kept pair then kept ++ pair ∷ [] else kept) segments)
        | false ↦ λ isnt. rw isnt (keep_all_is kept segments)
      ] refl
    ]

-- from nothing, the pairs that are kept are the parameters
pub keep_all_parameters : (segments : List Segment) → keep_all [] segments ≡ parameters_of segments
keep_all_parameters segments =
    keep_all_is [] segments ∙ keep_each_is [] (filter is_parameter (filter_map pair_of segments))
    ∙ filter_all (is_new []) (parameters_of segments) (all_new (parameters_of segments)) where
      all_new : (pairs : List (List ℕ × List ℕ)) → list_all (is_new []) pairs ≡ true
      all_new [] = refl
      all_new (pair ∷ pairs) = all_new pairs

-- whatever the rest of the text stands for completes what is kept
abbrev pub KeepsFor : List ℕ → List (List ℕ × List ℕ) → List ℕ → Type 0
KeepsFor text kept rest =
    (segments : List Segment) → are_segments segments ≡ true → rest ≡ segments_text segments
    → (all : List Segment) × (are_segments all ≡ true) × (text ≡ segments_text all)
    × (keep_all kept segments ≡ parameters_of all)

pub keeps_none : (text : List ℕ) → KeepsFor text [] text
keeps_none text segments are whole = (segments, are, whole, keep_all_parameters segments)

pub keeps_one : (text : List ℕ) (kept : List (List ℕ × List ℕ)) (rest : List ℕ) (s : Segment) (rest' : List ℕ)
    → KeepsFor text kept rest → ReadsSegment rest s rest' → KeepsFor text (kept_with kept (pair_of s)) rest'
keeps_one text kept rest s rest' keeps reads segments are whole =
    let more = more_segments rest rest' s segments reads are whole in
    keeps (s ∷ segments) more.0 more.1

pub keeps_all : (text : List ℕ) (kept : List (List ℕ × List ℕ)) → KeepsFor text kept [] → ReadsParameters text kept
keeps_all text kept keeps =
    let all = keeps [] refl refl in
    (all.0, all.1, all.2, all.3)
