use Rattle.std.proofs.Common.{◌≡◌, ◌+◌, ◌++◌, suc, length, ap, arith, append_assoc, length-append, ◌∙◌}
use Rattle.std.specs.List.{repeat}
use Rattle.trial.proofs.SourceLemmas.{repeat_more}
use Rattle.trial.proofs.bodies.repeated.Goals as goal

pub units-preserved : goal.units-preserved
units-preserved c =
    let unit = c.args.unit.now in
    let body = c.units.body.items in
    let next : suc c.units.counter ≡ c.units.counter + 1 = omega arith in
    let more = c.extend-in-units.ensures in
    record {
      items = more
          ∙ ap (λ l. l ++ unit) c.units.invariant.items
          ∙ append_assoc c.args.prefix.now (repeat c.units.counter unit) unit
          ∙ ap (λ l. c.args.prefix.now ++ l) (repeat_more c.units.counter unit ∙ ap (λ n. repeat n unit) next);
      room = omega (arith, ap length more, length-append body unit, c.units.invariant.room, c.requires.unit);
    }
