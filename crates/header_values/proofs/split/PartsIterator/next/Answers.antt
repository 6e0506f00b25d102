use Rattle.std.proofs.Common.{◌∷◌, length, ap, sym, ◌∙◌, arith}
use Rattle.std.specs.Option.{option_copied}
use Rattle.header_values.specs.Cuts.{parts_left_of}
use Rattle.header_values.proofs.PartLemmas.{parts_of-cut}
use Rattle.header_values.proofs.split.PartsIterator.next.Goals as goal

pub returns-clause-steps : goal.returns-clause-steps
returns-clause-steps c =
    ap (λ rest. parts_left_of (option_copied rest)) c.in_ok-self.was ∙ parts_of-cut _ _ _ c.split_part.ensures
    ∙ ap (λ part. part ∷ parts_left_of (option_copied c.split_part.result.1)) (sym c.trim_tab_or_space.ensures)

pub returns-clause-goes : goal.returns-clause-goes
returns-clause-goes c =
    let steps = returns-clause-steps c in
    record { on = λ _. (tt, tt, omega (arith, ap length steps)); keeps = tt; rests = λ _. tt }
