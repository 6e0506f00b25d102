use Rattle.std.proofs.Common.{rules, ◌≡◌, ◌≤◌, ◌++◌, ◌∷◌, [], ℕ, List, length, nat_eq, false, true, sym, ap, ◌∙◌, append_assoc, append-nil, length-append, arith}
use Rattle.std.specs.List.{starts_with}
use denote.Enum.Bare.{same_true, sameb}
use Rattle.text_stream.specs.contracts.decoder.Stage.{the_type}
use Rattle.text_stream.specs.declared.decoder.Stage.TheVariants.{Start}
use Rattle.text_stream.specs.Decoding.{characters_of, characters_after, byte_order_mark}
use Rattle.text_stream.specs.DecoderStages.{most_pending}
use Rattle.text_stream.specs.Decoder.{ahead_at}
use Rattle.text_stream.proofs.DecoderLemmas.{one_more, whole_mark, mark_off, past_mark}
use Rattle.text_stream.proofs.decoder.Decoder.feed_byte.Goals as goal
use Rattle.text_stream.proofs.decoder.Decoder.feed_byte.Goals.{then-len, else-len, else-eq-via-then-eq+else-starts_with, else-eq-via-else-eq}

pub returns-then-starts_with-clause-reads : goal.returns-then-starts_with-clause-reads
returns-then-starts_with-clause-reads c = λ bytes given h.
    let at_start : c.args.self.now.stage ≡ Start = same_true the_type (search rules) _ _ (sym c.if-eq.ensures) in
    let items : c.push.new.self.items ≡ c.args.self.now.pending.items ++ c.args.b ∷ [] = c.push.ensures.items in
    let nothing : given ++ c.new-given.result.items ≡ given = ap (λ t. given ++ t) c.new-given.ensures ∙ append-nil given in
    let so_far : (more : List ℕ) → characters_of ((bytes ++ c.args.b ∷ []) ++ more) ≡ given ++ characters_of (c.push.new.self.items ++ more) =
    λ more. one_more c.args.self.now bytes given more c.args.b h
    ∙ ap (λ s. given ++ ahead_at s ((c.args.self.now.pending.items ++ c.args.b ∷ []) ++ more)) at_start
    ∙ ap (λ t. given ++ characters_of (t ++ more)) (sym items) in
    elim c.if-len.branch [
      | then-len w ↦
          let mark : c.push.new.self.items ≡ byte_order_mark =
          whole_mark c.push.new.self.items
          (ap (λ t. starts_with nat_eq byte_order_mark t) (sym c.as_slice.ensures.value) ∙ sym c.starts_with.ensures.value ∙ c.if-starts_with.true)
          (sym c.len.ensures.value ∙ w.if-len.true) in
          rw (w.self-is, nothing) (record {
            can = λ lie. absurd (cc);
            gives = λ more. so_far more ∙ ap (λ t. given ++ characters_of (t ++ more)) mark ∙ ap (λ t. given ++ t) (mark_off more)
                ∙ ap (λ t. given ++ characters_after 0 (t ++ more)) (sym w.clear.ensures);
          })
      | else-len w ↦ rw (w.self-is, nothing) (record {
        can = h.can;
        gives = λ more. one_more c.args.self.now bytes given more c.args.b h
            ∙ ap (λ t. given ++ ahead_at c.args.self.now.stage (t ++ more)) (sym items);
      })
    ]

-- at the beginning the bytes don't begin the mark
not_begun : (c : goal.After-self-2-1) → c.args.self.now.stage ≡ Start
    → starts_with nat_eq byte_order_mark (c.args.self.now.pending.items ++ c.args.b ∷ []) ≡ false
not_begun c start = elim c.else-eq.branch [
  | else-eq-via-then-eq+else-starts_with w ↦
      ap (λ t. starts_with nat_eq byte_order_mark t) (sym (w.as_slice.ensures.value ∙ c.push.ensures.items))
      ∙ sym w.starts_with.ensures.value ∙ w.if-starts_with.false
  | else-eq-via-else-eq w ↦
      let lie : c.eq.result ≡ true = c.eq.ensures ∙ ap (λ s. sameb the_type s Start) start in
      absurd (cc (w.if-eq.false))
]

pub returns-clause-reads : goal.returns-clause-reads
returns-clause-reads c = λ bytes given h. record {
  can = λ lie. absurd (cc);
  gives = λ more.
      one_more c.args.self.now bytes given more c.args.b h
      ∙ ap (λ t. given ++ t) (past_mark c.args.self.now.stage (c.args.self.now.pending.items ++ c.args.b ∷ []) more h.can
      (λ start. not_begun c start)
      (λ start. let few : length c.args.self.now.pending.items ≤ 2 = rw (ap most_pending start) at c.args.self.now.few in
      omega (arith, length-append c.args.self.now.pending.items (c.args.b ∷ []))))
      ∙ ap (λ t. given ++ characters_after 0 (t ++ more)) (sym c.push.ensures.items)
      ∙ ap (λ t. given ++ t) (ap (λ g. g ++ characters_after 0 (c.push.new.self.items ++ more)) (sym c.new-given.ensures) ∙ c.settle.ensures.reads more)
      ∙ sym (append_assoc given c.settle.new.given.items (characters_after 0 (c.settle.new.pending.items ++ more)));
}
