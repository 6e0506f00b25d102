use Rattle.std.proofs.Common.{◌++◌, [], sym, ap, ◌∙◌, append-nil}
use Rattle.text_stream.specs.Decoding.{characters_of, characters_after}
use Rattle.text_stream.specs.DecoderStages.{most_pending}
use Rattle.text_stream.specs.Decoder.{ahead_at}
use Rattle.text_stream.proofs.DecoderLemmas.{at_end}
use Rattle.text_stream.proofs.decoder.Decoder.ending.Goals as goal

pub returns : goal.returns
returns c = λ bytes given h.
    let old = c.args.self.now in
    ap (λ t. given ++ t) (c.read_all.ensures ∙ ap (characters_after 0) c.as_slice.ensures.value
    ∙ sym (at_end old.stage old.pending.items h.can (λ start. rw (ap most_pending start) at old.few))
    ∙ ap (ahead_at old.stage) (sym (append-nil old.pending.items)))
    ∙ sym (h.gives []) ∙ ap characters_of (append-nil bytes)
