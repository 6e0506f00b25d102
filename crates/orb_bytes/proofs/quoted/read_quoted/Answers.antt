use Rattle.std.proofs.Common.{◌≢◌, ◌∷◌, ap, ◌∙◌, refl, arith}
use Rattle.orb_bytes.specs.Quoted.{qdtext, quoted_pair}
use Rattle.orb_bytes.proofs.QuotedLemmas.{more_units, unit_itself}
use Rattle.orb_bytes.proofs.quoted.read_quoted.Goals as goal

pub units-preserved : goal.units-preserved
units-preserved c =
    let no_quote : c.in-Some.first.now ≢ 34 = omega arith in
    let no_slash : c.in-Some.first.now ≢ 92 = omega arith in
    more_units c.args.text.now c.units.value.items c.units.rest.now c.push-in_default-first.new.self.items c.in-Some.after.now
    (qdtext c.in-Some.first.now) c.units.invariant (unit_itself c.in-Some.first.now no_quote no_slash) c.in-Some.ensures.cases.0
    c.in_ok-push-in_default-first.ensures.items

pub units-preserved-in-92 : goal.units-preserved-in-92
units-preserved-in-92 c =
    more_units c.args.text.now c.units.value.items c.units.rest.now c.push-in-92.new.self.items c.in-Some-split_first.others.now
    (quoted_pair c.in-Some-split_first.byte.now) c.units.invariant refl
    (c.in-Some.ensures.cases.0 ∙ ap (λ b. b ∷ c.in-Some.after.now) c.in-92.is ∙ ap (λ back. 92 ∷ back) c.in-Some-split_first.ensures.cases.0)
    c.in_ok-push-in-92-2.ensures.items
