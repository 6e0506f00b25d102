use Rattle.std.proofs.Common.{◌≡◌, ◌+◌, ◌<◌, ◌∷◌, ◌++◌, [], ℕ, List, length, get_or, take, refl, sym, ap, subst, ◌∙◌, append_assoc, arith}
use Rattle.std.proofs.lemmas.List.{take_more}
use Rattle.std.specs.Char.{is_ascii}
use Rattle.es5_lexer.specs.Characters.{is_part}
use Rattle.es5_lexer.specs.Texts.{Mark, mark, Lexes}
use Rattle.es5_lexer.specs.Lexing.{HasRead}
use Rattle.es5_lexer.specs.declared.places.Place.TheVariants.{Name}
use Rattle.es5_lexer.specs.declared.states.State.TheVariants.{Token}
use Rattle.es5_lexer.proofs.Choices.{and_left, and_right}
use Rattle.es5_lexer.proofs.RunLemmas.{with_letters, part_reads, part_asks, last_of, none_of, all_and}
use Rattle.es5_lexer.proofs.lexer.Lexer.feed_parts.Goals as goal

pub parts-init : goal.parts-init
parts-init c = record {
  state = refl;
  within = omega arith;
  ascii = refl;
  reads = λ m given h q e. subst (λ (t : List Mark). HasRead c.args.self.now t given) (none_of m q e) h;
  asks = λ m given h p q w e f end tokens l. subst (λ (t : List Mark). Lexes t end tokens)
      (sym (append_assoc m p w) ∙ ap (λ (t : List Mark). t ++ w) (sym (none_of m p e) ∙ none_of m q f) ∙ append_assoc m q w) l;
}

pub parts-preserved : goal.parts-preserved
parts-preserved c =
    let piece = c.args.piece.now in
    let n = c.parts.count in
    let b = get_or piece n 0 in
    let inv = c.parts.invariant in
    let within : n < length piece = omega (arith, c.parts-test.true) in
    let is = sym c.is_name_part.ensures ∙ c.if-is_name_part.true in
    let ascii = and_left (is_ascii b) (is_part b) is in
    let part = and_right (is_ascii b) (is_part b) is in
    let more : take (n + 1) piece ≡ take n piece ++ b ∷ [] = take_more piece n 0 within in
    let new = with_letters c.parts.self c.read_part.new.self in
    let from : c.parts.self.state ≡ Token Name = inv.state ∙ c.requires in
    record {
      state = inv.state;
      within = omega arith;
      ascii = rw more (all_and is_ascii (take n piece) b inv.ascii ascii);
      reads = λ m given h q e.
          let l = last_of (take n piece) b q (e ∙ more) in
          subst (λ (t : List Mark). HasRead new t given) (append_assoc m l.before (l.last ∷ []) ∙ ap (λ (t : List Mark). m ++ t) (sym l.is))
          (subst (λ (x : ℕ). HasRead new ((m ++ l.before) ++ mark l.last.reading x ∷ []) given) (sym l.ends)
          (part_reads c.parts.self new (m ++ l.before) given l.last.reading b from from refl c.read_part.ensures.letters c.read_part.ensures.escapes part
          (inv.reads m given h l.before l.spells)));
      asks = λ m given h p q w e f end tokens lexes.
          let x = last_of (take n piece) b p (e ∙ more) in
          let y = last_of (take n piece) b q (f ∙ more) in
          let first : Lexes (m ++ (x.before ++ (x.last ∷ w))) end tokens =
          subst (λ (t : List Mark). Lexes (m ++ t) end tokens) (ap (λ (t : List Mark). t ++ w) x.is ∙ append_assoc x.before (x.last ∷ []) w) lexes in
          let next : Lexes ((m ++ y.before) ++ (x.last ∷ w)) end tokens =
          subst (λ (t : List Mark). Lexes t end tokens) (sym (append_assoc m y.before (x.last ∷ w)))
          (inv.asks m given h x.before y.before (x.last ∷ w) x.spells y.spells end tokens first) in
          let last : Lexes ((m ++ y.before) ++ (mark y.last.reading x.last.character ∷ w)) end tokens =
          part_asks c.parts.self (m ++ y.before) given from (inv.reads m given h y.before y.spells) x.last.reading y.last.reading x.last.character w end tokens next in
          let same : Lexes ((m ++ y.before) ++ (y.last ∷ w)) end tokens =
          subst (λ (k : ℕ). Lexes ((m ++ y.before) ++ (mark y.last.reading k ∷ w)) end tokens) (x.ends ∙ sym y.ends) last in
          subst (λ (t : List Mark). Lexes t end tokens)
          (append_assoc m y.before (y.last ∷ w) ∙ ap (λ (t : List Mark). m ++ t) (sym (append_assoc y.before (y.last ∷ []) w) ∙ ap (λ (t : List Mark). t ++ w) (sym y.is))) same;
    }
