use Rattle.std.proofs.Common.{◌≡◌, ◌-◌, ℕ, List, ◌++◌, length, take, sym, ap, subst, ◌∙◌, arith, length-append}
use Rattle.std.proofs.lemmas.List.{length-take-le}
use Rattle.orb_io.specs.Told.{Loses}
use Rattle.computed_type.proofs.InputLemmas.{some_of, reads_more, window_more}
use Rattle.computed_type.proofs.run.read_body.Goals as goal

pub returns-then-taken-eq-MOST_OF_A_RUN-clause-reads : goal.returns-then-taken-eq-MOST_OF_A_RUN-clause-reads
returns-then-taken-eq-MOST_OF_A_RUN-clause-reads g c =
    let i = c.pulls.invariant in
    let piece = take c.in-Ok.count c.pull_within.new.room in
    let long : length piece ≡ c.in-Ok.count = length-take-le c.in-Ok.count c.pull_within.new.room c.in-Ok.ensures.bound in
    reads_more (g.I.Source.left c.args.input.now) (g.I.Source.left c.pulls.input) (g.I.Source.left c.pull_within.new.input) _ _ i.reads piece
    c.in-Ok.ensures.bytes.0
    (omega (
      arith,
      i.reads.holds.0,
      c.if-taken-eq-MOST_OF_A_RUN.true,
      some_of c.in-Ok.count c.in-Ok.count-test.1,
      long,
      length-append i.reads.bytes piece,
    ))

pub pulls-preserved : goal.pulls-preserved
pulls-preserved g c =
    let i = c.pulls.invariant in
    let b = g.I.Source.left c.pulls.input in
    let d = g.I.Source.left c.pull_within.new.input in
    let piece = c.split_at.result.0.now in
    let window = c.pulls.window.items in
    let room : c.remaining_capacity.result ≡ 1024 - length window = omega (arith, c.remaining_capacity.ensures) in
    let grew : c.extend.new.text.items ≡ window ++ take (1024 - length window) piece =
    c.extend.ensures ∙ ap (λ t. window ++ t) (c.first_bytes.ensures.bytes ∙ ap (λ n. take n piece) room) in
    record {
      reads = reads_more (g.I.Source.left c.args.input.now) b d _ _ i.reads piece
          (subst (λ (t : List ℕ). Loses b d t) (sym c.split_at.ensures.front) c.in-Ok.ensures.bytes.0) (
            omega (arith, i.reads.holds.0, c.split_at.ensures.front_len, length-append i.reads.bytes piece),
            λ body is. window_more c.args.window.now.items window c.extend.new.text.items body i.reads.bytes piece (i.reads.holds.1 body) grew is,
          );
      few = c.in-Ok.ensures.few (omega (arith, i.few, c.if-taken-eq-MOST_OF_A_RUN.false));
      source = c.in-Ok.ensures.cause ∙ i.source;
      keeps = g.met.I.Source.kept_transitive _ _ _ i.keeps c.pull_within.ensures.keeps;
      room = c.pull_within.ensures.room ∙ i.room;
    }
