use Rattle.std.proofs.Common.{◌≡◌, ℕ, List, ◌++◌, [], ◌∷◌, length, arith, refl, sym, ap, ◌∙◌, subst, append_assoc}
use Rattle.std.proofs.lemmas.Bool.Decides.{nat_tests}
use Rattle.std.proofs.lemmas.List.{take-append-drop, append-nil}
use Rattle.response_rules.specs.Reads.{HasRead}
use Rattle.response_rules.proofs.tests.feed_in_pieces.Goals as goal

none_left : (rest : List ℕ) → length rest ≡ 0 → rest ≡ []
none_left [] none = refl
none_left (b ∷ rest) none = absurd (omega (arith, none))

pub pieces-init : goal.pieces-init
pieces-init c = ([], refl, λ h m r. subst (HasRead c.args.decider.now h) (sym (append-nil m)) r)

pub returns : goal.returns
returns c = λ h m r.
    let (prefix, split, reads) = c.pieces.invariant in
    let empty : c.pieces.rest.now ≡ [] = none_left c.pieces.rest.now (grind (arith, nat_tests, c.is_empty.ensures, c.pieces-test.false)) in
    let whole = split ∙ ap (λ l. prefix ++ l) empty ∙ append-nil prefix in
    subst (λ t. HasRead c.pieces.decider h (m ++ t)) (sym whole) (reads h m r)

pub pieces-preserved : goal.pieces-preserved
pieces-preserved c =
    let (prefix, split, reads) = c.pieces.invariant in
    let piece = c.split_at.result.0.now in
    let rest = c.split_at.result.1.now in
    let whole : c.pieces.rest.now ≡ piece ++ rest =
    rw (c.split_at.ensures.front, c.split_at.ensures.back) (sym (take-append-drop c.min.result c.pieces.rest.now)) in (
      prefix ++ piece,
      split ∙ (ap (λ l. prefix ++ l) whole ∙ sym (append_assoc prefix piece rest)),
      λ h m r. subst (HasRead c.feed-progress.new.self h) (append_assoc m prefix piece)
          (c.feed-progress.ensures.reads h (m ++ prefix) (reads h m r)),
    )
