use Rattle.std.proofs.Common.{◌++◌, ◌∷◌, [], ◌<◌, not, nat_lt, sym, ap, ◌∙◌, arith}
use Rattle.std.proofs.lemmas.Bool.{and_parts, not-true}
use Rattle.std.proofs.lemmas.Bool.Decides.{nat_tests}
use Rattle.text_stream.specs.Decoder.{is_pending}
use Rattle.text_stream.proofs.DecoderLemmas.{settled_passes}
use Rattle.json_recogniser.specs.Machines.{comes}
use Rattle.json_recogniser.proofs.JsonTestLemmas.{read_on}
use Rattle.json_recogniser.proofs.json_test.JsonTest.feed_byte.Goals as goal

pub returns-then-is_character : goal.returns-then-is_character
returns-then-is_character c = λ bytes reads.
    let decoder = c.args.self.now.decoder in
    let parts = and_parts (nat_lt c.args.b 128) (not (is_pending decoder)) (sym c.is_character.ensures ∙ c.if-is_character.true) in
    let ascii : c.args.b < 128 = grind (arith, nat_tests) in
    read_on c.args.self.now _ bytes (c.args.b ∷ []) c.args.b
    (λ read given h. settled_passes decoder (not-true (is_pending decoder) parts.1) read given c.args.b ascii h) c.take.ensures reads

pub returns-else-is_character : goal.returns-else-is_character
returns-else-is_character c = λ bytes reads.
    read_on c.args.self.now _ bytes c.feed_byte-given.result.items c.args.b
    c.feed_byte-given.ensures.reads
    (λ text. c.take_all.ensures text ∙ ap (λ t. comes c.args.self.now.machine (t ++ text)) c.as_slice.ensures.value) reads
