-- What a decider keeps of a response but its body.
use Rattle.std.specs.Prelude.{◌≡◌, ℕ, List, Option, is_some}
use Rattle.mime_types.specs.Sets.{is_safelisted_type, is_never_sniffed_type, is_blocklisted_type, is_plain_text_type, is_html_type, is_xml_type, is_json_type, is_media_type}
use Rattle.header_values.specs.Questions.{is_nosniff, is_coded}
use Rattle.response_rules.specs.declared.groups.Groups.{Groups}
use Rattle.response_rules.specs.declared.facts.Facts.{Facts}
use Rattle.response_rules.specs.Heads.{Case, HasEssence, IsCase, is_in, has_first, length_of}

-- the groups of an essence; of none no group
abbrev pub groups_of : Option (List ℕ × List ℕ) → Groups
groups_of essence = record {
  typed = is_some essence;
  safelisted = is_in is_safelisted_type essence;
  never_sniffed = is_in is_never_sniffed_type essence;
  blocklisted = is_in is_blocklisted_type essence;
  plain_text = is_in is_plain_text_type essence;
  html = is_in is_html_type essence;
  xml = is_in is_xml_type essence;
  json = is_in is_json_type essence;
  media = is_in (λ main sub. is_media_type main) essence;
}

-- these are the groups of the essence that the fields state
abbrev pub AreGroups : List (List ℕ × List ℕ) → Groups → Type 0
AreGroups fields groups =
    (essence : Option (List ℕ × List ℕ)) × HasEssence fields essence × (groups ≡ groups_of essence)

-- what the rules ask of a head
abbrev pub facts_of : Case → Facts
facts_of h = record {
  policy = h.policy;
  state = h.state;
  opaque = h.opaque;
  status = h.status;
  groups = groups_of h.essence;
  nosniff = is_nosniff h.fields;
  coded = is_coded h.fields;
  from_first = has_first h.fields;
  complete = length_of h;
  limit = h.limit;
}

-- these are the facts of a response with this head
pub record AreFactsOf (facts : Facts) (h : Case) : Type 0 where
  pub states : IsCase h
  pub are : facts ≡ facts_of h
