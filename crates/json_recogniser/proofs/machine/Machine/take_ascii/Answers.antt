use Rattle.std.proofs.Common.{◌≡◌, ◌+◌, ◌<◌, ◌++◌, ◌∷◌, [], true, refl, take, drop, length, length-drop, get_or, sym, ap, ◌∙◌, arith, append_assoc}
use Rattle.std.specs.Char.{is_ascii}
use Rattle.std.proofs.lemmas.List.{take_more}
use Rattle.std.proofs.lemmas.Bool.{and_from}
use Rattle.json_recogniser.specs.Machines.{comes}
use Rattle.json_recogniser.proofs.RunLemmas.{take_then, ascii_more}
use Rattle.json_recogniser.proofs.machine.Machine.take_ascii.Goals as goal

pub bytes-preserved : goal.bytes-preserved
bytes-preserved c =
    let piece = c.args.piece.now in
    let n = c.bytes.count in
    let k = c.pass-count.result in
    let b = get_or piece n 0 in
    let left = c.split_at.result.1.now in
    let within : n < length piece = omega (arith, c.bytes-test.true) in
    let rest : take k left ≡ take k (drop (n + 1) piece) = ap (take k) c.split_at.ensures.back in
    let cut : take (n + 1 + k) piece ≡ (take n piece ++ b ∷ []) ++ take k left =
    take_then (n + 1) k piece ∙ ap (λ t. t ++ take k (drop (n + 1) piece)) (take_more piece n 0 within) ∙ ap (λ t. (take n piece ++ b ∷ []) ++ t) (sym rest) in
    let ascii : is_ascii b ≡ true = sym c.is_ascii.ensures ∙ c.if-is_ascii.true in
    record {
      within = let few = c.pass-count.ensures.within in let long = ap length c.split_at.ensures.back in omega (arith, few, long, within, length-drop (n + 1) piece);
      ascii = rw cut (ascii_more is_ascii (take n piece ++ b ∷ []) (take k left) (ascii_more is_ascii (take n piece) (b ∷ []) c.bytes.invariant.ascii (and_from _ _ ascii refl)) c.pass-count.ensures.ascii);
      goes = λ text.
          c.pass-count.ensures.comes text ∙ c.take.ensures (take k left ++ text) ∙ c.bytes.invariant.goes (b ∷ (take k left ++ text))
          ∙ ap (comes c.args.self.now) (sym (append_assoc (take n piece) (b ∷ []) (take k left ++ text))
          ∙ sym (append_assoc (take n piece ++ b ∷ []) (take k left) text) ∙ ap (λ t. t ++ text) (sym cut));
    }
