use Rattle.text_stream.proofs.DecoderLemmas.{passes_ascii, passes_text, no_items}
use Rattle.text_stream.proofs.decoder.Decoder.is_pending.Goals as goal

pub returns-in-Within-clause-passes : goal.returns-in-Within-clause-passes
returns-in-Within-clause-passes c = λ none. passes_ascii c.args.self.now c.in-Within.is (no_items c.args.self.now.pending.items c.is_empty.result c.is_empty.ensures none)

pub returns-in-Within-clause-text : goal.returns-in-Within-clause-text
returns-in-Within-clause-text c = λ none. passes_text c.args.self.now c.in-Within.is (no_items c.args.self.now.pending.items c.is_empty.result c.is_empty.ensures none)
