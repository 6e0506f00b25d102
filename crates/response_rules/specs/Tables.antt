-- The tables of the rules: what each asks, in the order in which they are asked. Those of Opaque Response Blocking are
-- after the ORB proposal, those of Cross-Origin Read Blocking after the CORB explainer.
use Rattle.std.specs.Prelude.{◌≡◌, ℕ, Bool, true, false, not, ◌&&◌, ◌||◌, ◌==◌, nat_lt, List, [], ◌∷◌, ◌++◌, length, find, Option, is_some, unwrap_or}
use Rattle.std.specs.List.{list_any}
use Rattle.std.specs.Option.{option_map}
use Rattle.mime_types.specs.Sets.{is_safelisted_type, is_never_sniffed_type, is_blocklisted_type, is_plain_text_type, is_html_type, is_xml_type, is_json_type, is_media_type}
use Rattle.header_values.specs.Questions.{is_nosniff, is_coded}
use Rattle.signatures.specs.Rows.{image_of, media_of}
use Rattle.signatures.specs.Window.{window_of}
use Rattle.corb_sniffers.specs.Values.{has_breaker, sniffs_html, sniffs_xml, sniffs_json}
use Rattle.response_rules.specs.Texts.{is_script, is_json}
use Rattle.response_rules.specs.declared.rules.Rule.{Rule}
use Rattle.response_rules.specs.declared.rules.Rule.TheVariants as rule
use Rattle.response_rules.specs.declared.verdicts.Policy.{Policy}
use Rattle.response_rules.specs.declared.verdicts.Policy.TheVariants.{Orb, Corb}
use Rattle.response_rules.specs.Heads.{Case, is_in, has_first, ok, partial_content, is_ok_status, length_of, is_na, is_initial, is_subsequent, kept_length, is_other_length}

-- ---- Opaque Response Blocking

-- the rules that the head alone decides, each with whether it holds
unfoldable pub orb_head_rows : Case → List (Rule × Bool)
orb_head_rows h =
    (rule.NotOpaque, not h.opaque)
    ∷ (rule.Safelisted, is_in is_safelisted_type h.essence)
    ∷ (rule.NeverSniffed, is_in is_never_sniffed_type h.essence)
    ∷ (rule.PartialBlocklisted, h.status == partial_content && is_in is_blocklisted_type h.essence)
    ∷ (
      rule.NosniffBlocklisted,
      is_nosniff h.fields
          && (is_in is_blocklisted_type h.essence || is_in is_plain_text_type h.essence),
    )
    ∷ (rule.RangeMismatch, is_other_length (kept_length h.state) (length_of h))
    ∷ (rule.Subsequent, is_subsequent h.state)
    ∷ (rule.BadRange, h.status == partial_content && not (has_first h.fields))
    ∷ (rule.Coded, is_coded h.fields)
    ∷ []

-- the rules that the window decides, which are asked after those
unfoldable pub orb_window_rows : Case → List ℕ → List (Rule × Bool)
orb_window_rows h window =
    (rule.MediaUnexpected, is_some (media_of window) && not (is_initial h.state))
    ∷ (rule.MediaStatus, is_some (media_of window) && not (h.status == ok || h.status == partial_content))
    ∷ (rule.Media, is_some (media_of window))
    ∷ (rule.MediaExpected, not (is_na h.state))
    ∷ (rule.Image, is_some (image_of window))
    ∷ (rule.Nosniff, is_nosniff h.fields)
    ∷ (rule.NotOk, not (is_ok_status h.status))
    ∷ (rule.Untyped, not (is_some h.essence))
    ∷ (rule.TypedMedia, is_in (λ main sub. is_media_type main) h.essence)
    ∷ []

-- the rules that the whole body decides, the last of which always holds
unfoldable pub orb_end_rows : Case → List ℕ → List (Rule × Bool)
orb_end_rows h body =
    (rule.BodyLimit, nat_lt h.limit (length body))
    ∷ (rule.NotScript, not (is_script body))
    ∷ (rule.Json, is_json body)
    ∷ (rule.Script, true)
    ∷ []

-- ---- Cross-Origin Read Blocking

-- the type is of the group, or plain text
abbrev pub is_or_plain : (List ℕ → List ℕ → Bool) → Case → Bool
is_or_plain group h = is_in group h.essence || is_in is_plain_text_type h.essence

-- the type is a protected one, or plain text
abbrev pub is_guarded : Case → Bool
is_guarded h = is_or_plain is_blocklisted_type h

unfoldable pub corb_head_rows : Case → List (Rule × Bool)
corb_head_rows h =
    (rule.NotOpaque, not h.opaque)
    ∷ (rule.CorbSafelisted, is_in is_safelisted_type h.essence)
    ∷ (rule.CorbNeverSniffed, is_in is_never_sniffed_type h.essence)
    ∷ (rule.CorbPartial, h.status == partial_content && is_guarded h)
    ∷ (rule.CorbNosniff, is_nosniff h.fields && is_guarded h)
    ∷ (rule.CorbCoded, is_coded h.fields && is_guarded h)
    ∷ []

-- the last of them always holds
unfoldable pub corb_window_rows : Case → List ℕ → List (Rule × Bool)
corb_window_rows h window =
    (rule.CorbBreaker, not (is_coded h.fields) && has_breaker window)
    ∷ (rule.CorbHtml, is_or_plain is_html_type h && sniffs_html window)
    ∷ (rule.CorbXml, is_or_plain is_xml_type h && sniffs_xml window)
    ∷ (rule.CorbJson, is_or_plain is_json_type h && sniffs_json window)
    ∷ (rule.CorbUnprotected, not (is_guarded h))
    ∷ (rule.CorbText, is_in is_plain_text_type h.essence)
    ∷ (rule.CorbUnconfirmed, true)
    ∷ []

-- ---- both

abbrev pub head_rows_by : Policy → Case → List (Rule × Bool)
head_rows_by Orb h = orb_head_rows h
head_rows_by Corb h = corb_head_rows h

abbrev pub window_rows_by : Policy → Case → List ℕ → List (Rule × Bool)
window_rows_by Orb h window = orb_window_rows h window
window_rows_by Corb h window = corb_window_rows h window

abbrev pub end_rows_by : Policy → Case → List ℕ → List (Rule × Bool)
end_rows_by Orb h body = orb_end_rows h body
end_rows_by Corb h body = []

unfoldable pub head_rows : Case → List (Rule × Bool)
head_rows h = head_rows_by h.policy h

unfoldable pub window_rows : Case → List ℕ → List (Rule × Bool)
window_rows h window = window_rows_by h.policy h window

unfoldable pub end_rows : Case → List ℕ → List (Rule × Bool)
end_rows h body = end_rows_by h.policy h body

-- the rules of the head and the window, for a body that begins with that window
abbrev pub early_rows : Case → List ℕ → List (Rule × Bool)
early_rows h body = head_rows h ++ window_rows h (window_of body)

-- all rules, for a whole body
abbrev pub rows_of : Case → List ℕ → List (Rule × Bool)
rows_of h body = early_rows h body ++ end_rows h body

-- it is the first rule of the table that holds
pub record IsFirst (rows : List (Rule × Bool)) (decides : Rule) : Type 0 where
  pub before : List (Rule × Bool)
  pub after : List (Rule × Bool)
  pub table : rows ≡ before ++ ((decides, true) ∷ after)
  pub first : list_any (λ row. row.1) before ≡ false

-- the rule that decides a response with that whole body
abbrev pub IsRule : Case → List ℕ → Rule → Type 0
IsRule h body decides = IsFirst (rows_of h body) decides

-- `IsFirst` as a function
abbrev pub first_rule : List (Rule × Bool) → Option Rule
first_rule rows = option_map (λ row. row.0) (find (λ row. row.1) rows)

-- the rule of the head or the window that decides, if one does
unfoldable pub early_rule : Case → List ℕ → Option Rule
early_rule h body = first_rule (early_rows h body)

-- `IsRule` as a function: one rule always holds
unfoldable pub rule_of : Case → List ℕ → Rule
rule_of h body = unwrap_or (first_rule (rows_of h body)) rule.Script
