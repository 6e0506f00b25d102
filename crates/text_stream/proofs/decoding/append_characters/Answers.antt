use Rattle.std.proofs.Common.{◌<◌, ◌≡◌, length, arith, eqb-true}
use Rattle.std.proofs.lemmas.Bool.Decides.{nat_tests}
use Rattle.text_stream.proofs.DecodingLemmas.{reads_on, all_read}
use Rattle.text_stream.proofs.decoding.append_characters.Goals as goal

pub reading-preserved : goal.reading-preserved
reading-preserved c =
    let some : 0 < length c.reading.rest.now = grind (arith, nat_tests) in
    let read = reads_on _ _ c.reading.rest.now c.first_character-c.result.0 c.first_character-c.result.1 some
    c.first_character-c.ensures.character c.first_character-c.ensures.size c.reading.invariant.0 in
    (rw (c.append.ensures.items, c.split_at.ensures.back) read, omega arith)

pub returns : goal.returns
returns c =
    let none : length c.reading.rest.now ≡ 0 = eqb-true _ _ (cc) in all_read _ _ c.reading.rest.now none c.reading.invariant.0
