-- What the type and subtype of a text say of its cut.
use Rattle.std.proofs.Common.{◌≡◌, ℕ, Bool, true, false, not, nat_eq, List, [], ◌∷◌, ◌++◌, length, refl, sym, ap, ◌∙◌, append_assoc, inl, inr, ◌⊎◌}
use Rattle.std.specs.List.{list_all}
use Rattle.std.specs.Str.{str_to_ascii_lowercase}
use Rattle.std.proofs.lemmas.List.Folds.{list_all-append}
use Rattle.std.proofs.lemmas.Bool.{and_parts, and_from}
use Rattle.orb_bytes.specs.Bytes.{is_token_byte, is_http_whitespace}
use Rattle.orb_bytes.specs.Trim.{trimmed, without_trailing}
use Rattle.mime_types.specs.Spans.{Spans}
use Rattle.mime_types.specs.Mime.{is_token, is_no_semicolon, Cut, IsCut, mime_of, IsMime, HasNoMime, IsEssence, WritesEssence, segments_text}
use Rattle.mime_types.specs.Reading.{ReadsEssence, ReadsParameters}
use Rattle.mime_types.proofs.SpanLemmas.{span_unique}
use Rattle.mime_types.proofs.CutLemmas.{is_no_slash, token_no_slash, token_no_semicolon, token_no_space, space_no_semicolon, class_within, token_bytes, segments_begin}
use Rattle.mime_types.proofs.TrailingLemmas.{without_trailing-append, without_trailing-none, trailing_of}
use Rattle.mime_types.proofs.SegmentLemmas.{segments_of}

pub token_by_length : (text : List ℕ) (r : Bool) → r ≡ list_all is_token_byte text
    → nat_eq (length text) 0 ≡ false → r ≡ is_token text
token_by_length [] r all some = absurd (cc)
token_by_length (b ∷ text) r all some = all

-- a text with no `/` has no record
pub needs_slash : (text inner : List ℕ) → inner ≡ trimmed is_http_whitespace text → list_all is_no_slash inner ≡ true
    → HasNoMime text
needs_slash text inner trim none mime is =
    let cut = is.0 in
    let after = 47 ∷ (cut.sub ++ (cut.space ++ segments_text cut.segments)) in
    let all : list_all is_no_slash (cut.main ++ after) ≡ true = ap (list_all is_no_slash) (sym is.1.whole ∙ sym trim) ∙ none in
    let parts = and_parts (list_all is_no_slash cut.main) (list_all is_no_slash after) (sym (list_all-append is_no_slash cut.main after) ∙ all) in
    let lie : false ≡ true = parts.1 in cc

-- the subtype of a cut is what stands between `/` and `;`, without the white space at its end
pub essence_only : (text inner main after field tail sub : List ℕ) (cut : Cut) → IsCut text cut
    → inner ≡ trimmed is_http_whitespace text → inner ≡ main ++ (47 ∷ after) → list_all is_no_slash main ≡ true
    → Spans is_no_semicolon after field tail → sub ≡ without_trailing is_http_whitespace field
    → (cut.main ≡ main) × (cut.sub ≡ sub)
essence_only text inner main after field tail sub cut is trim whole slash spans end =
    let mains = span_unique is_no_slash cut.main main _ _
    (class_within is_token_byte is_no_slash cut.main token_no_slash (token_bytes cut.main is.main)) slash
    refl refl (sym is.whole ∙ sym trim ∙ whole) in
    let rest : cut.sub ++ (cut.space ++ segments_text cut.segments) ≡ after = cc in
    let inside : list_all is_no_semicolon (cut.sub ++ cut.space) ≡ true =
    list_all-append is_no_semicolon cut.sub cut.space
    ∙ and_from (list_all is_no_semicolon cut.sub) (list_all is_no_semicolon cut.space)
    (class_within is_token_byte is_no_semicolon cut.sub token_no_semicolon (token_bytes cut.sub is.sub))
    (class_within is_http_whitespace is_no_semicolon cut.space space_no_semicolon is.space) in
    let subs = span_unique is_no_semicolon (cut.sub ++ cut.space) field (segments_text cut.segments) tail inside spans.inside
    (segments_begin cut.segments) spans.stops
    (append_assoc cut.sub cut.space (segments_text cut.segments) ∙ rest ∙ spans.whole) in
    let no_space = class_within is_token_byte (λ b. not (is_http_whitespace b)) cut.sub
    (λ b token. ap not (token_no_space b token)) (token_bytes cut.sub is.sub) in (
      mains.0,
      sym (without_trailing-none is_http_whitespace cut.sub no_space)
          ∙ sym (without_trailing-append is_http_whitespace cut.sub cut.space is.space)
          ∙ ap (without_trailing is_http_whitespace) subs.0 ∙ sym end,
    )

-- tokens at both sides of the `/` are an essence
pub essence_read : (text inner main after field tail sub : List ℕ)
    → inner ≡ trimmed is_http_whitespace text → inner ≡ main ++ (47 ∷ after)
    → Spans is_no_semicolon after field tail → sub ≡ without_trailing is_http_whitespace field
    → is_token main ≡ true → is_token sub ≡ true → ReadsEssence text main sub tail
essence_read text inner main after field tail sub trim whole spans end is_main is_sub =
    let space = trailing_of is_http_whitespace field in
    let shown : after ≡ sub ++ (space.0 ++ tail) =
    spans.whole ∙ ap (λ prefix. prefix ++ tail) (space.2 ∙ ap (λ prefix. prefix ++ space.0) (sym end))
    ∙ append_assoc sub space.0 tail in
    record {
      space = space.0;
      whole = sym trim ∙ whole ∙ ap (λ back. main ++ (47 ∷ back)) shown;
      is_main = is_main;
      is_sub = is_sub;
      is_space = space.1;
      begins = spans.stops;
    }

-- an essence makes a cut, whatever the tail holds
pub essence_cut : (text main sub tail : List ℕ) → ReadsEssence text main sub tail → WritesEssence text main sub
essence_cut text main sub tail reads =
    let segments = segments_of tail reads.begins in
    let cut : Cut = record { main = main; sub = sub; space = reads.space; segments = segments.segments } in (
      cut,
      record {
        whole = reads.whole ∙ ap (λ back. main ++ (47 ∷ (sub ++ (reads.space ++ back)))) segments.whole;
        main = reads.is_main;
        sub = reads.is_sub;
        space = reads.is_space;
        segments = segments.are;
      },
      refl,
      refl,
    )

-- a text whose `/` has no token on one side has no record
pub essence_none : (text main sub : List ℕ)
    → ((cut : Cut) → IsCut text cut → (cut.main ≡ main) × (cut.sub ≡ sub))
    → (is_token main ≡ false) ⊎ (is_token sub ≡ false) → HasNoMime text
essence_none text main sub only (inl main_is) mime is =
    let lie : true ≡ false = sym is.1.main ∙ ap is_token (only is.0 is.1).0 ∙ main_is in cc
essence_none text main sub only (inr sub_is) mime is =
    let lie : true ≡ false = sym is.1.sub ∙ ap is_token (only is.0 is.1).1 ∙ sub_is in cc

-- what a text writes is its essence
pub essence_written : (text main sub : List ℕ) → WritesEssence text main sub → IsEssence text main sub
essence_written text main sub written =
    (mime_of written.0, (written.0, written.1, refl), ap str_to_ascii_lowercase written.2, ap str_to_ascii_lowercase written.3)

-- a text with an essence has a record
pub essence_some : (text main sub tail : List ℕ) → ReadsEssence text main sub tail → HasNoMime text → ⊥
essence_some text main sub tail reads none =
    let written = essence_cut text main sub tail reads in
    none (mime_of written.0) (written.0, written.1, refl)

-- the record of a text whose parts are read
pub mime_read : (text main sub tail small_main small_sub : List ℕ) (pairs : List (List ℕ × List ℕ))
    → ReadsEssence text main sub tail → small_main ≡ str_to_ascii_lowercase main → small_sub ≡ str_to_ascii_lowercase sub
    → ReadsParameters tail pairs → IsMime text (record { main = small_main; sub = small_sub; parameters = pairs })
mime_read text main sub tail small_main small_sub pairs reads main_is sub_is parameters =
    let cut : Cut = record { main = main; sub = sub; space = reads.space; segments = parameters.0 } in (
      cut,
      record {
        whole = reads.whole ∙ ap (λ back. main ++ (47 ∷ (sub ++ (reads.space ++ back)))) parameters.2;
        main = reads.is_main;
        sub = reads.is_sub;
        space = reads.is_space;
        segments = parameters.1;
      },
      λ i. record { main = main_is i; sub = sub_is i; parameters = parameters.3 i },
    )
