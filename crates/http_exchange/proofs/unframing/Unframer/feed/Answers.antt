use Rattle.std.proofs.Common.{◌≡◌, length, sym, subst, ◌∙◌}
use Rattle.http_exchange.specs.Reads.{StandsAt, Gets}
use Rattle.http_exchange.specs.declared.unframing.Reading.{Reading}
use Rattle.http_exchange.specs.declared.unframing.Reading.TheVariants.{Rest}
use Rattle.http_exchange.proofs.UnframerLemmas.{chunks_answer, chunks_taken, counted_get, rest_get}
use Rattle.http_exchange.proofs.unframing.Unframer.feed.Goals as goal

pub returns-in-Counted-clause-answers : goal.returns-in-Counted-clause-answers
returns-in-Counted-clause-answers c = λ f m given h.
    let P : Reading → Type 0 = λ u. StandsAt u f m given in
    counted_get c.in-Counted.left f m given c.args.piece.now c.prefix_of-body.result.now c.prefix_of-body.ensures
    (subst P (sym c.self.view_is ∙ c.in-Counted.is) h.stands)

pub returns-in-Rest-clause-answers : goal.returns-in-Rest-clause-answers
returns-in-Rest-clause-answers c = λ f m given h.
    let P : Reading → Type 0 = λ u. StandsAt u f m given in
    let Q : Reading → Type 0 = λ u. Gets u f m given c.args.piece.now c.args.piece.now (length c.args.piece.now) in
    let is : c.args.self.now ≡ Rest = sym c.self.view_is ∙ c.in-Rest.is in
    subst Q (sym is) (rest_get f m given c.args.piece.now (subst P is h.stands))

pub returns-in-Chunks-clause-answers : goal.returns-in-Chunks-clause-answers
returns-in-Chunks-clause-answers c = λ f m given h.
    let P : Reading → Type 0 = λ u. StandsAt u f m given in
    chunks_answer c.in-Chunks.place c.take_chunks-after.result.0 c.take_chunks-after.result.1 f m given c.args.piece.now
    c.take_chunks-after.ensures.taken (subst P (sym c.self.view_is ∙ c.in-Chunks.is) h.stands)

pub returns-in-Chunks-clause-taken : goal.returns-in-Chunks-clause-taken
returns-in-Chunks-clause-taken c =
    chunks_taken c.in-Chunks.place c.take_chunks-after.result.0 c.take_chunks-after.result.1 c.args.piece.now
    c.take_chunks-after.ensures.taken
