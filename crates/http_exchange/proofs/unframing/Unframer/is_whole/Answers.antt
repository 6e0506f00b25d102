use Rattle.std.proofs.Common.{sym, subst, ◌∙◌}
use Rattle.http_exchange.specs.Reads.{StandsAt}
use Rattle.http_exchange.specs.declared.unframing.Reading.{Reading}
use Rattle.http_exchange.proofs.UnframerLemmas.{whole_read}
use Rattle.http_exchange.proofs.unframing.Unframer.is_whole.Goals as goal

pub returns-in-Chunks-clause-whole : goal.returns-in-Chunks-clause-whole
returns-in-Chunks-clause-whole c = λ f m given h.
    let P : Reading → Type 0 = λ u. StandsAt u f m given in
    let both = whole_read c.in-Chunks.place f m given (subst P (sym c.self.view_is ∙ c.in-Chunks.is) h.stands) in
    (λ t. both.0 (sym c.is_end.ensures ∙ t), λ whole. c.is_end.ensures ∙ both.1 whole)
