use Rattle.std.proofs.Common.{◌≡◌, ◌++◌, [], false, take, sym, ap, ◌∙◌, append_assoc, append-nil, subst, ℕ, List, take-append-drop, eqb-true}
use Rattle.std.proofs.lemmas.List.{nil_from_length}
use Rattle.json_recogniser.specs.JsonTest.{HasRead, is_dead}
use Rattle.json_recogniser.proofs.JsonTestLemmas.{has_read}
use Rattle.json_recogniser.proofs.json_test.JsonTest.feed.Goals as goal

pub bytes-preserved : goal.bytes-preserved
bytes-preserved c =
    let before = c.bytes.invariant.taken in
    let rest = c.bytes.rest.now in
    let n = c.feed_ascii.result in
    let left = c.split_at.result.1.now in
    let k = c.feed_others.result in
    let next = c.split_at-in-bytes.result.1.now in
    let alive : is_dead c.bytes.self ≡ false = sym c.is_dead.ensures.value ∙ c.bytes-test.true in
    let cut : rest ≡ take n rest ++ left = sym (take-append-drop n rest) ∙ ap (λ t. take n rest ++ t) (sym c.split_at.ensures.back) in
    let more : left ≡ take k left ++ next = sym (take-append-drop k left) ∙ ap (λ t. take k left ++ t) (sym c.split_at-in-bytes.ensures.back) in
    record {
      taken = (
        before.0 ++ (take n rest ++ take k left),
        before.1 ∙ ap (λ t. before.0 ++ t) (cut ∙ ap (λ t. take n rest ++ t) more ∙ sym (append_assoc (take n rest) (take k left) next))
            ∙ sym (append_assoc before.0 (take n rest ++ take k left) next),
        λ bytes h.
            let run = c.feed_ascii.ensures.reads (bytes ++ before.0) ((before.2 bytes h).alive alive) in
            let fed = has_read c.feed_others.new.self (((bytes ++ before.0) ++ take n rest) ++ take k left) (c.feed_others.ensures.reads ((bytes ++ before.0) ++ take n rest) run) in
            let regrouped : ((bytes ++ before.0) ++ take n rest) ++ take k left ≡ bytes ++ (before.0 ++ (take n rest ++ take k left)) =
            append_assoc (bytes ++ before.0) (take n rest) (take k left) ∙ append_assoc bytes before.0 (take n rest ++ take k left) in
            rw regrouped at fed,
      );
      dead = λ was. let lie = c.bytes.invariant.dead was in absurd (cc);
    }

pub returns-then-is_empty-clause-reads : goal.returns-then-is_empty-clause-reads
returns-then-is_empty-clause-reads c = λ bytes h.
    let before = c.bytes.invariant.taken in
    let rest = c.bytes.rest.now in
    let n = c.feed_ascii.result in
    let alive : is_dead c.bytes.self ≡ false = sym c.is_dead.ensures.value ∙ c.bytes-test.true in
    let none : c.split_at.result.1.now ≡ [] = nil_from_length c.split_at.result.1.now (eqb-true _ _ (cc)) in
    let all : rest ≡ take n rest =
    sym (take-append-drop n rest) ∙ ap (λ t. take n rest ++ t) (sym c.split_at.ensures.back ∙ none) ∙ append-nil (take n rest) in
    let whole : (bytes ++ before.0) ++ take n rest ≡ bytes ++ c.args.piece.now =
    ap (λ t. (bytes ++ before.0) ++ t) (sym all) ∙ append_assoc bytes before.0 rest ∙ ap (λ t. bytes ++ t) (sym before.1) in
    subst (λ (t : List ℕ). HasRead c.feed_ascii.new.self t) whole (has_read c.feed_ascii.new.self ((bytes ++ before.0) ++ take n rest)
    (c.feed_ascii.ensures.reads (bytes ++ before.0) ((before.2 bytes h).alive alive)))
