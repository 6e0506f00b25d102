use Rattle.std.proofs.Common.{◌≡◌, ◌≤◌, ℕ, List, [], ◌++◌, length, take, drop, refl, sym, ap, subst, ◌∙◌, arith}
use Rattle.orb_io.specs.Told.{Loses}
use Rattle.orb_io.proofs.ToldLemmas.{Loses-none}
use Rattle.computed_type.proofs.InputLemmas.{some_of, take_none, reads_more, reads_same, gathered_first, gathered_open, gathered_short, gathered_more, gathered_cut, gathered_fault, gathered_long, gathered_whole}
use Rattle.computed_type.proofs.run.read_head.Goals as goal

pub pulls-init : goal.pulls-init
pulls-init g c = record {
  reads = record { bytes = []; lost = Loses-none _; holds = gathered_first c.clear.new.self c.clear.ensures };
  source = refl;
  keeps = g.met.I.Source.kept_reflexive c.args.input.now;
  room = refl;
  empty = c.requires;
}

pub pull_within-requires-clause-run : goal.pull_within-requires-clause-run
pull_within-requires-clause-run g c =
    let i = c.pulls.invariant in
    omega (arith, gathered_short c.pulls.head c.pulls.taken i.reads.bytes i.reads.holds)

pub take-requires : goal.take-requires
take-requires g c =
    let i = c.pulls.invariant in
    gathered_open c.pulls.head c.pulls.taken i.reads.bytes i.reads.holds

pub returns-in-Ok-eq0-clause-reads : goal.returns-in-Ok-eq0-clause-reads
returns-in-Ok-eq0-clause-reads g c =
    let i = c.pulls.invariant in
    let b = g.I.Source.left c.pulls.input in
    let d = g.I.Source.left c.pull_within.new.input in
    let none : take c.in-Ok-eq0.field-0 c.pull_within.new.room ≡ [] = take_none c.pull_within.new.room c.in-Ok-eq0.field-0 c.in-Ok-eq0.field-0-test in
    let end = c.in-Ok-eq0.ensures.bytes.1 c.in-Ok-eq0.field-0-test (omega (arith, c.pull_within.ensures.room, i.room)) in
    reads_same (g.I.Source.left c.args.input.now) b d _ _ i.reads (subst (λ (t : List ℕ). Loses b d t) none c.in-Ok-eq0.ensures.bytes.0)
    (gathered_cut d c.pulls.head c.pulls.window.items c.pulls.taken i.reads.bytes i.reads.holds end)

pub returns-in-Err-clause-reads : goal.returns-in-Err-clause-reads
returns-in-Err-clause-reads g c =
    let i = c.pulls.invariant in
    let d = g.I.Source.left c.pull_within.new.input in
    reads_same (g.I.Source.left c.args.input.now) (g.I.Source.left c.pulls.input) d _ _ i.reads c.in-Err.ensures.bytes
    (gathered_fault d c.pulls.head c.pulls.window.items c.pulls.taken i.reads.bytes i.reads.holds)

pub overflow_add-taken : goal.overflow_add-taken
overflow_add-taken g c =
    let i = c.pulls.invariant in
    omega (arith, gathered_short c.pulls.head c.pulls.taken i.reads.bytes i.reads.holds, c.in-Ok.ensures.bound, c.pull_within.ensures.room, i.room)

pub pulls-smaller : goal.pulls-smaller
pulls-smaller g c =
    let i = c.pulls.invariant in
    omega (arith, gathered_short c.pulls.head c.pulls.taken i.reads.bytes i.reads.holds, some_of c.in-Ok.count c.in-Ok.count-test.1)

pub returns-in-Long-clause-reads : goal.returns-in-Long-clause-reads
returns-in-Long-clause-reads g c =
    let i = c.pulls.invariant in
    let b = g.I.Source.left c.pulls.input in
    let d = g.I.Source.left c.pull_within.new.input in
    let piece = c.split_at.result.0.now in
    let few : length piece ≤ 8192 = omega (arith, c.split_at.ensures.front_len, c.in-Ok.ensures.bound, c.pull_within.ensures.room, i.room) in
    reads_more (g.I.Source.left c.args.input.now) b d _ _ i.reads piece
    (subst (λ (t : List ℕ). Loses b d t) (sym c.split_at.ensures.front) c.in-Ok.ensures.bytes.0)
    (gathered_long d c.pulls.head c.take.new.self c.pulls.window.items c.pulls.taken i.reads.bytes piece i.reads.holds few c.in-Long.ensures)

pub returns-in-Whole-clause-reads : goal.returns-in-Whole-clause-reads
returns-in-Whole-clause-reads g c =
    let i = c.pulls.invariant in
    let b = g.I.Source.left c.pulls.input in
    let d = g.I.Source.left c.pull_within.new.input in
    let piece = c.split_at.result.0.now in
    let few : length piece ≤ 8192 = omega (arith, c.split_at.ensures.front_len, c.in-Ok.ensures.bound, c.pull_within.ensures.room, i.room) in
    let seen : c.extend.new.text.items ≡ take 1024 (drop c.in-Whole.used piece) =
    c.extend.ensures ∙ ap (λ t. t ++ c.first_bytes.result.now) i.empty ∙ c.first_bytes.ensures.bytes
    ∙ ap (λ t. take 1024 t) c.split_at-in-Whole.ensures.back in
    reads_more (g.I.Source.left c.args.input.now) b d _ _ i.reads piece
    (subst (λ (t : List ℕ). Loses b d t) (sym c.split_at.ensures.front) c.in-Ok.ensures.bytes.0)
    (gathered_whole d c.pulls.head c.take.new.self c.extend.new.text.items c.pulls.taken c.in-Ok.count c.in-Whole.used i.reads.bytes piece i.reads.holds
    (sym c.split_at.ensures.front_len) few c.in-Whole.ensures seen)

pub pulls-preserved : goal.pulls-preserved
pulls-preserved g c =
    let i = c.pulls.invariant in
    let b = g.I.Source.left c.pulls.input in
    let d = g.I.Source.left c.pull_within.new.input in
    let piece = c.split_at.result.0.now in
    record {
      reads = reads_more (g.I.Source.left c.args.input.now) b d _ _ i.reads piece
          (subst (λ (t : List ℕ). Loses b d t) (sym c.split_at.ensures.front) c.in-Ok.ensures.bytes.0)
          (gathered_more c.pulls.head c.take.new.self c.pulls.taken c.in-Ok.count i.reads.bytes piece i.reads.holds c.in-Open.ensures
          (sym c.split_at.ensures.front_len));
      source = c.in-Ok.ensures.cause ∙ i.source;
      keeps = g.met.I.Source.kept_transitive _ _ _ i.keeps c.pull_within.ensures.keeps;
      room = c.pull_within.ensures.room ∙ i.room;
      empty = i.empty;
    }
