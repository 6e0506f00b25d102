use Rattle.std.proofs.Common.{sym, ◌∙◌, arith}
use Rattle.bstr.proofs.lemmas.PieceLemmas.{piece-bounds}
use Rattle.text_stream.proofs.DecodingLemmas.{size-of_sequence}
use Rattle.text_stream.proofs.decoding.first_character.Goals as goal

pub returns-in-Some-default-clause-size : goal.returns-in-Some-default-clause-size
returns-in-Some-default-clause-size c =
    c.decode.ensures.size ∙ size-of_sequence c.args.bytes.now c.in-Some-default.c c.requires (sym c.decode.ensures.char ∙ c.in-Some-default.is-0)

pub returns-in-Some-default-clause-within : goal.returns-in-Some-default-clause-within
returns-in-Some-default-clause-within c =
    let bounds = piece-bounds c.args.bytes.now c.requires in
    omega (arith, bounds.2, c.decode.ensures.size)
