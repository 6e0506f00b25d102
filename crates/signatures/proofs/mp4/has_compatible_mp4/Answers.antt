use Rattle.std.proofs.Common.{inl, inr, refl, sym, ◌∙◌, arith}
use Rattle.std.proofs.lemmas.Bool.{cases_lt}
use Rattle.signatures.specs.Mp4.{is_compatible_mp4}
use Rattle.signatures.proofs.PlaceLemmas.{some_below-at, some_below-none}
use Rattle.signatures.proofs.Mp4Lemmas.{compatible-Decides, none_before, none_after}
use Rattle.signatures.proofs.mp4.has_compatible_mp4.Goals as goal

pub brands-init : goal.brands-init
brands-init c = record { from = omega arith; aligned = refl; none = none_before c.args.window.now }

pub brands-preserved : goal.brands-preserved
brands-preserved c = record {
  from = omega arith;
  aligned = omega arith;
  none = λ k below. elim (cases_lt k c.brands.offset) [
    | inl before ↦ c.brands.invariant.none k before
    | inr from ↦ none_after c.args.window.now c.brands.offset k c.brands.invariant.aligned
        (sym c.stands_at.ensures ∙ c.if-stands_at.false) from below
  ];
}

pub returns-then-stands_at : goal.returns-then-stands_at
returns-then-stands_at c =
    sym (some_below-at (is_compatible_mp4 c.args.window.now) c.args.size c.brands.offset c.brands-test.true
    ((compatible-Decides c.args.window.now c.brands.offset).1
    ((c.brands.invariant.from, c.brands.invariant.aligned), sym c.stands_at.ensures ∙ c.if-stands_at.true)))

pub returns : goal.returns
returns c =
    sym (some_below-none (is_compatible_mp4 c.args.window.now) c.args.size
    (λ k below. c.brands.invariant.none k (omega (arith, c.brands-test.false))))
