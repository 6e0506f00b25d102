use Rattle.std.proofs.Common.{◌<◌, ◌+◌, ◌++◌, ◌∷◌, [], take, get_or, refl, sym, ap, ◌∙◌, subst, ℕ, List, append_assoc}
use Rattle.std.proofs.lemmas.List.{take_more}
use Rattle.text_stream.specs.Decoding.{characters_after}
use Rattle.text_stream.specs.Decoder.{HasRead as DecoderHasRead}
use Rattle.json_recogniser.specs.Machines.{comes}
use Rattle.json_recogniser.proofs.RunLemmas.{text_characters}
use Rattle.json_recogniser.proofs.JsonTestLemmas.{text_read, text_comes}
use Rattle.json_recogniser.proofs.json_test.JsonTest.feed_others.Goals as goal

pub returns-then-run-piece-clause-reads : goal.returns-then-run-piece-clause-reads
returns-then-run-piece-clause-reads c = λ bytes reads.
    let test = c.args.self.now in
    let piece = c.args.piece.now in
    let n = c.text_length-run.result in
    let b = get_or piece n 0 in
    let run = take n piece in
    let given = characters_after 0 run in
    let small : b < 128 = c.text_length-run.ensures.ends c.if-run-piece.true in
    text_read test _ bytes (take (n + 1) piece) (given ++ b ∷ []) refl
    (λ before g read. subst (λ (t : List ℕ). DecoderHasRead test.decoder (before ++ t) (g ++ (given ++ b ∷ []))) (sym (take_more piece n 0 c.if-run-piece.true))
    (c.is_pending.ensures.text c.if-is_pending.false before g run b small read))
    (λ text. c.take.ensures text ∙ sym (text_comes test.machine given (b ∷ text) (sym c.is_in_text.ensures ∙ c.if-not-is_in_text.false) (text_characters run c.text_length-run.ensures.plain))
    ∙ ap (comes test.machine) (sym (append_assoc given (b ∷ []) text)))
    reads
