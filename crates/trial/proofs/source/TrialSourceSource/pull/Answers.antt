use Rattle.std.proofs.Common.{◌≡◌, ◌+◌, ◌-◌, ◌++◌, length, take, drop, ap, sym, subst, ◌∙◌, arith, length-append, length-drop}
use Rattle.std.proofs.lemmas.List.{length-take}
use Rattle.trial.specs.Trials.{trial_of}
use Rattle.trial.proofs.SourceLemmas.{Ready, ready-next, given, none_left, take_whole}
use Rattle.trial.proofs.source.TrialSourceSource.pull.Goals as goal
use Rattle.trial.proofs.source.TrialSourceSource.pull.Goals.{then-self-len+then-self-gt0, else-self-len, else-self-len-via-then-self-len+else-self-gt0, else-self-len-via-else-self-len}

pub returns-clause-bytes : goal.returns-clause-bytes
returns-clause-bytes c =
    let old = c.self.inside in
    let s = c.if-self-len.self-inside in
    let n = c.min-count.result in
    let rest = drop s.offset s.text.items in
    let ready : Ready c.args.self.now s.text.items s.offset s.number s.count =
    elim c.if-self-len.branch [
      | then-self-len+then-self-gt0 w ↦
          subst (λ q. Ready c.args.self.now q.text.items q.offset q.number q.count) (sym w.self-inside-is)
          (subst (λ l. Ready l w.write_exchange.new.text.items 0 (old.number + 1) (old.count - 1)) c.self.view_is
          (ready-next old.text.items w.write_exchange.new.text.items old.offset old.number old.count
          (omega (arith, w.if-self-len.true, c.len.ensures.value)) w.if-self-gt0.true w.write_exchange.ensures.text
          w.write_exchange.ensures.some))
      | else-self-len w ↦
          subst (λ q. Ready c.args.self.now q.text.items q.offset q.number q.count) (sym w.self-inside-is)
          (record {
            within = c.self.invariant.0;
            same = c.self.view_is;
            last = λ full. elim w.else-self-len.branch [
              | else-self-len-via-then-self-len+else-self-gt0 w' ↦ omega (arith, w'.if-self-gt0.false)
              | else-self-len-via-else-self-len w' ↦ absurd (omega (arith, w'.if-self-len.false, c.len.ensures.value, full))
            ];
          })
    ] in
    let rest_is : c.split_at.result.1.now ≡ rest = c.split_at.ensures.back ∙ ap (drop s.offset) c.as_slice.ensures.value in
    let copied : c.copy_from_slice.new.self ≡ take n rest =
    c.copy_from_slice.ensures.after ∙ c.split_at-2.ensures.front ∙ ap (take n) rest_is in
    let size : length c.copy_from_slice.new.self ≡ n =
    omega (arith, c.copy_from_slice.ensures.len, length-take n c.args.buf.now, c.min-count.ensures) in
    let first = take_whole c.copy_from_slice.new.self (drop n c.args.buf.now) n size ∙ copied in (
      sym ready.same ∙ given s.text.items (trial_of s.number s.count) s.offset n
          ∙ ap (λ l. l ++ (drop (s.offset + n) s.text.items ++ trial_of s.number s.count)) (sym first),
      λ zero_ some.
          let none : length rest ≡ 0 =
          omega (
            arith,
            ap length rest_is,
            c.min-count.ensures,
            zero_,
            some,
            length-append c.copy_from_slice.new.self (drop n c.args.buf.now),
            length-drop n c.args.buf.now,
            size,
          ) in
          ap (λ k. drop (s.offset + k) s.text.items ++ trial_of s.number s.count) zero_
          ∙ none_left c.args.self.now s.text.items s.offset s.number s.count ready none,
    )
