use Rattle.std.proofs.Common.{codes, unwrap_or, ap, refl, ◌∙◌}
use Rattle.computed_type.specs.Unknown.{unknown_type, unknown_rules}
use Rattle.computed_type.proofs.RuleLemmas.{first_is, or_shown, xml_is}
use Rattle.computed_type.proofs.unknown.unknown_type.Goals as goal

pub returns : goal.returns
unfolding unknown_type unknown_rules
returns c =
    ap (λ e. e.now) c.unwrap_or.ensures
    ∙ or_shown c.first_of.result _
    ∙ ap (λ o. unwrap_or o (codes "application/octet-stream")) (first_is c.first_of.result _ (unknown_rules c.args.nosniff c.args.window.now) c.first_of.ensures
    (rw (
      c.begins_with_html.ensures,
      xml_is c.args.window.now c.sniffs_xml.result c.sniffs_xml.ensures,
      c.starts_with.ensures.value,
      c.starts_with-2.ensures.value,
      c.begins_with_mark.ensures,
      c.is_some.ensures,
      c.image_type.ensures,
      c.image_essence.ensures,
      c.is_some-2.ensures,
      c.media_type.ensures,
      c.media_essence.ensures,
      c.starts_with-3.ensures.value,
      c.starts_with-4.ensures.value,
      c.has_binary_byte.ensures,
    ) refl))
