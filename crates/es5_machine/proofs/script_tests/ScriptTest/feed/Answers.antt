use Rattle.std.proofs.Common.{◌≡◌, ◌++◌, ◌∷◌, [], ◌-◌, ◌<◌, true, false, take, drop, length, get_or, ℕ, List, subst, sym, ap, ◌∙◌, append_assoc, take-append-drop}
use Rattle.es5_machine.specs.ScriptTests.{HasRead}
use Rattle.es5_machine.proofs.ScriptTestLemmas.{has_read, alive_reads, dead_reads, first_alone}
use Rattle.text_stream.proofs.RunLemmas.{first_and_others}
use Rattle.es5_machine.proofs.script_tests.ScriptTest.feed.Goals as goal

pub bytes-preserved : goal.bytes-preserved
bytes-preserved c =
    let before = c.bytes.invariant.taken in
    let rest = c.bytes.rest.now in
    let n = c.feed_run.result in
    let left = c.split_at.result.1.now in
    let b = get_or left 0 0 in
    let others = take (length left - 1) (drop 1 left) in
    let alive : c.bytes.self.reader.dead ≡ false = sym c.is_dead.ensures ∙ c.bytes-test.true in
    let cut : rest ≡ take n rest ++ (b ∷ others) =
    sym (take-append-drop n rest)
    ∙ ap (λ t. take n rest ++ t) (sym c.split_at.ensures.back ∙ first_and_others left c.in-len1-up.len_at_least) in
    record {
      taken = (
        before.0 ++ (take n rest ++ b ∷ []),
        before.1 ∙ ap (λ t. before.0 ++ t) (cut ∙ sym (append_assoc (take n rest) (b ∷ []) others))
            ∙ sym (append_assoc before.0 (take n rest ++ b ∷ []) others),
        λ m h.
            let run = c.feed_run.ensures.reads (m ++ before.0) (alive_reads c.bytes.self (m ++ before.0) alive (before.2 m h)) in
            let fed = has_read c.read_byte.new.self (((m ++ before.0) ++ take n rest) ++ b ∷ [])
            (c.read_byte.ensures.reads ((m ++ before.0) ++ take n rest) run) in
            let regrouped : ((m ++ before.0) ++ take n rest) ++ b ∷ [] ≡ m ++ (before.0 ++ (take n rest ++ b ∷ [])) =
            append_assoc (m ++ before.0) (take n rest) (b ∷ []) ∙ append_assoc m before.0 (take n rest ++ b ∷ []) in
            rw regrouped at fed,
      );
      dead = λ was. c.read_byte.ensures.dead (c.feed_run.ensures.dead ∙ c.bytes.invariant.dead was);
    }

pub returns-in-empty-clause-reads : goal.returns-in-empty-clause-reads
returns-in-empty-clause-reads c m h =
    let before = c.bytes.invariant.taken in
    let rest = c.bytes.rest.now in
    let n = c.feed_run.result in
    let alive : c.bytes.self.reader.dead ≡ false = sym c.is_dead.ensures ∙ c.bytes-test.true in
    let few = subst (λ (t : List ℕ). length t < 1) c.split_at.ensures.back c.in-empty.len_below in
    let whole : (m ++ before.0) ++ take n rest ≡ m ++ c.args.piece.now =
    ap (λ t. (m ++ before.0) ++ t) (sym (first_alone n rest few)) ∙ append_assoc m before.0 rest ∙ ap (λ t. m ++ t) (sym before.1) in
    subst (λ (t : List ℕ). HasRead c.feed_run.new.self t) whole (has_read c.feed_run.new.self ((m ++ before.0) ++ take n rest)
    (c.feed_run.ensures.reads (m ++ before.0) (alive_reads c.bytes.self (m ++ before.0) alive (before.2 m h))))

pub returns-clause-reads : goal.returns-clause-reads
returns-clause-reads c m h =
    let before = c.bytes.invariant.taken in
    let rest = c.bytes.rest.now in
    let dead : c.bytes.self.reader.dead ≡ true = sym c.is_dead.ensures ∙ c.bytes-test.false in
    subst (λ (t : List ℕ). HasRead c.bytes.self t) (append_assoc m before.0 rest ∙ ap (λ t. m ++ t) (sym before.1))
    (dead_reads c.bytes.self (m ++ before.0) rest dead (before.2 m h))
