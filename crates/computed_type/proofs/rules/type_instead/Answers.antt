use Rattle.std.proofs.Common.{refl}
use Rattle.computed_type.specs.Rules.{type_instead, rules_of}
use Rattle.computed_type.proofs.RuleLemmas.{first_is}
use Rattle.computed_type.proofs.rules.type_instead.Goals as goal

pub returns : goal.returns
unfolding type_instead rules_of
returns c = λ r h.
    first_is c.first_of.result _ (rules_of r) c.first_of.ensures
    (rw (
      h.supplied,
      h.main,
      h.sub,
      h.nosniff,
      h.plain,
      h.seen,
      c.is_unknown.ensures,
      c.unknown_type.ensures,
      c.text_or_binary.ensures,
      c.is_xml.ensures,
      c.is_html.ensures,
      c.eq_ignore_case-is_image.ensures,
      c.is_some.ensures,
      c.image_type.ensures,
      c.image_essence.ensures,
      c.is_audio_or_video.ensures,
      c.is_some-2.ensures,
      c.media_type.ensures,
      c.media_essence.ensures,
    ) refl)
