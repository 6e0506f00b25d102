use Rattle.std.proofs.Common.{refl, ◌∙◌}
use Rattle.header_values.specs.Fields.{pairs_in}
use Rattle.computed_type.proofs.ComputedLemmas.{type_of, known_instead, none_instead, nothing_stated}
use Rattle.computed_type.proofs.computing.computed.Goals as goal

pub returns-in-Some-type_instead : goal.returns-in-Some-type_instead
returns-in-Some-type_instead c =
    let is = known_instead (pairs_in c.args.fields.now) c.args.window.now c.in-Some.essence c.in-Some-type_instead.name _ _
    c.nosniff-nosniff.ensures.value c.is_default_plain-plain.ensures.value c.in-Some.ensures.found c.in-Some-type_instead.ensures in (
      (refl, λ _. tt, c.extract_essence.follows.holds-at-none ∙ c.is_default_plain-plain.ensures.kept ∙ c.nosniff-nosniff.ensures.kept),
      record { answer = is; essence = type_of _ _ _ is; kept = tt },
    )

pub returns-in-None-type_instead : goal.returns-in-None-type_instead
returns-in-None-type_instead c =
    let is = none_instead (pairs_in c.args.fields.now) c.args.window.now c.in-Some.essence _ _
    c.nosniff-nosniff.ensures.value c.is_default_plain-plain.ensures.value c.in-Some.ensures.found c.in-None-type_instead.ensures in (
      (refl, λ _. tt, c.extract_essence.follows.holds-at-none ∙ c.is_default_plain-plain.ensures.kept ∙ c.nosniff-nosniff.ensures.kept),
      record { answer = is; essence = type_of _ _ _ is; kept = tt },
    )

pub returns-in-None : goal.returns-in-None
returns-in-None c =
    let is = nothing_stated (pairs_in c.args.fields.now) c.args.window.now c.unknown_type.result c.nosniff-nosniff.result
    c.nosniff-nosniff.ensures.value c.in-None.ensures.none c.unknown_type.ensures in (
      (refl, λ _. tt, c.extract_essence.follows.holds-at-none ∙ c.is_default_plain-plain.ensures.kept ∙ c.nosniff-nosniff.ensures.kept),
      record { answer = is; essence = type_of _ _ _ is; kept = tt },
    )
