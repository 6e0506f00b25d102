-- The rules by name: whether each allows, and which part of a response settles it.
use Rattle.std.specs.Prelude.{ℕ, Bool, true, false, List, Option, codes}
use Rattle.media_state.specs.States.{state_after}
use Rattle.media_state.specs.declared.states.MediaState.{MediaState}
use Rattle.response_rules.specs.declared.rules.Rule.{Rule}
use Rattle.response_rules.specs.declared.rules.Rule.TheVariants as rule

-- the head, the window, or the end of the body
pub data Part : Type 0 where
  at_head : Part
  at_window : Part
  at_end : Part

-- a row of the table: the name of a rule, whether it allows, and the part that settles it
pub record Row : Type 0 where
  pub name : List ℕ
  pub allows : Bool
  pub part : Part

abbrev pub allow : List ℕ → Part → Row
allow name part = record { name = name; allows = true; part = part }

abbrev pub block : List ℕ → Part → Row
block name part = record { name = name; allows = false; part = part }

unfoldable pub row_of : Rule → Row
row_of rule.NotOpaque = allow (codes "not-opaque") at_head
-- Opaque Response Blocking
row_of rule.Safelisted = allow (codes "safelisted") at_head
row_of rule.NeverSniffed = block (codes "never-sniffed") at_head
row_of rule.PartialBlocklisted = block (codes "partial-blocklisted") at_head
row_of rule.NosniffBlocklisted = block (codes "nosniff-blocklisted") at_head
row_of rule.RangeMismatch = block (codes "range-mismatch") at_head
row_of rule.Subsequent = allow (codes "subsequent") at_head
row_of rule.BadRange = block (codes "bad-range") at_head
row_of rule.Coded = block (codes "coded") at_head
row_of rule.MediaUnexpected = block (codes "media-unexpected") at_window
row_of rule.MediaStatus = block (codes "media-status") at_window
row_of rule.Media = allow (codes "media") at_window
row_of rule.MediaExpected = block (codes "media-expected") at_window
row_of rule.Image = allow (codes "image") at_window
row_of rule.Nosniff = block (codes "nosniff") at_window
row_of rule.NotOk = block (codes "not-ok") at_window
row_of rule.Untyped = allow (codes "untyped") at_window
row_of rule.TypedMedia = block (codes "typed-media") at_window
row_of rule.BodyLimit = block (codes "body-limit") at_end
row_of rule.NotScript = block (codes "not-script") at_end
row_of rule.Json = block (codes "json") at_end
row_of rule.Script = allow (codes "script") at_end
-- Cross-Origin Read Blocking
row_of rule.CorbSafelisted = allow (codes "corb-safelisted") at_head
row_of rule.CorbNeverSniffed = block (codes "corb-never-sniffed") at_head
row_of rule.CorbPartial = block (codes "corb-partial") at_head
row_of rule.CorbNosniff = block (codes "corb-nosniff") at_head
row_of rule.CorbCoded = block (codes "corb-coded") at_head
row_of rule.CorbBreaker = block (codes "corb-breaker") at_window
row_of rule.CorbHtml = block (codes "corb-html") at_window
row_of rule.CorbXml = block (codes "corb-xml") at_window
row_of rule.CorbJson = block (codes "corb-json") at_window
row_of rule.CorbUnprotected = allow (codes "corb-unprotected") at_window
row_of rule.CorbText = allow (codes "corb-text") at_window
row_of rule.CorbUnconfirmed = allow (codes "corb-unconfirmed") at_window

-- the name of a rule
abbrev pub name_of : Rule → List ℕ
name_of decides = (row_of decides).name

-- a response that the rule decides is allowed
abbrev pub is_allowing : Rule → Bool
is_allowing decides = (row_of decides).allows

-- the part that settles a rule
abbrev pub settled_by : Rule → Part
settled_by decides = (row_of decides).part

-- it lets the response through as audio or video
unfoldable pub is_media_rule : Rule → Bool
is_media_rule rule.Media = true
is_media_rule other = false

-- it lets the response through as a later part of a media resource
unfoldable pub is_subsequent_rule : Rule → Bool
is_subsequent_rule rule.Subsequent = true
is_subsequent_rule other = false

-- the state of the media resource after a response that the rule decides and that states this complete length
abbrev pub state_after_rule : MediaState → Rule → (complete : Option ℕ) → MediaState
state_after_rule state decided complete =
    state_after state (is_media_rule decided) (is_subsequent_rule decided) complete
