-- How long the name of a rule is.
use Rattle.std.proofs.Common.{◌≤◌, length, lit≤}
use Rattle.response_rules.specs.Rules.{name_of, row_of}
use Rattle.response_rules.specs.declared.rules.Rule.{Rule}
use Rattle.response_rules.specs.declared.rules.Rule.TheVariants as rule

pub name-short : (r : Rule) → length (name_of r) ≤ 19
unfolding row_of
name-short rule.NotOpaque = lit≤ tt
name-short rule.Safelisted = lit≤ tt
name-short rule.NeverSniffed = lit≤ tt
name-short rule.PartialBlocklisted = lit≤ tt
name-short rule.NosniffBlocklisted = lit≤ tt
name-short rule.RangeMismatch = lit≤ tt
name-short rule.Subsequent = lit≤ tt
name-short rule.BadRange = lit≤ tt
name-short rule.Coded = lit≤ tt
name-short rule.MediaUnexpected = lit≤ tt
name-short rule.MediaStatus = lit≤ tt
name-short rule.Media = lit≤ tt
name-short rule.MediaExpected = lit≤ tt
name-short rule.Image = lit≤ tt
name-short rule.Nosniff = lit≤ tt
name-short rule.NotOk = lit≤ tt
name-short rule.Untyped = lit≤ tt
name-short rule.TypedMedia = lit≤ tt
name-short rule.BodyLimit = lit≤ tt
name-short rule.NotScript = lit≤ tt
name-short rule.Json = lit≤ tt
name-short rule.Script = lit≤ tt
name-short rule.CorbSafelisted = lit≤ tt
name-short rule.CorbNeverSniffed = lit≤ tt
name-short rule.CorbPartial = lit≤ tt
name-short rule.CorbNosniff = lit≤ tt
name-short rule.CorbCoded = lit≤ tt
name-short rule.CorbBreaker = lit≤ tt
name-short rule.CorbHtml = lit≤ tt
name-short rule.CorbXml = lit≤ tt
name-short rule.CorbJson = lit≤ tt
name-short rule.CorbUnprotected = lit≤ tt
name-short rule.CorbText = lit≤ tt
name-short rule.CorbUnconfirmed = lit≤ tt
