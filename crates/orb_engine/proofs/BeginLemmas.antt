-- A body that begins.
use Rattle.std.proofs.Common.{◌≡◌, ℕ, Bool, false, List, [], ◌++◌, refl, sym, ap, subst, ◌∙◌}
use Rattle.std.specs.FinMap as map
use Rattle.std.proofs.lemmas.List.{append-nil}
use Rattle.orb_io.specs.Told.{IsPrefix}
use Rattle.response_rules.specs.declared.facts.Facts.{Facts}
use Rattle.body_filter.specs.Responses as filter
use Rattle.http_exchange.specs.Reads.{StandsAt}
use Rattle.http_exchange.specs.Reads.{HasRead as UnframerHasRead}
use Rattle.http_exchange.specs.declared.frames.BodyFrame.{BodyFrame}
use Rattle.http_exchange.proofs.UnframerLemmas.{prefix_read, starts}
use Rattle.orb_engine.specs.declared.settings.Settings.{Settings}
use Rattle.orb_engine.specs.declared.engine.Engine.{Engine}
use Rattle.orb_engine.specs.declared.engine.states.Asked.{Asked}
use Rattle.orb_engine.specs.declared.engine.states.Incoming.{Incoming}
use Rattle.exchanges.specs.Heads.{id_of, is_chunked, is_to_end}
use Rattle.orb_engine.specs.Judged.{judged_by}
use Rattle.orb_engine.specs.Recording.{exchanges_text}
use Rattle.orb_engine.specs.Outputs.{written_exchanges, written_so_far}
use Rattle.orb_engine.specs.Writing.{WriterReads, gathered_by}
use Rattle.orb_engine.specs.Reads.{Coming, coming_response, coming_written, coming_text, table_of, Fills, Breaks, HasReadHeads}
use Rattle.orb_engine.proofs.StepLemmas.{seen-body, breaks-body}
use Rattle.orb_engine.proofs.PassLemmas.{IsKept, common-kept}

-- the exchange whose heads have been read
abbrev pub begun : (asked : Asked) (read : Facts × BodyFrame) (e : Engine) (s : Settings) (m given : List ℕ)
    → HasReadHeads asked read e s m given → Coming
begun asked read e s m given q = record {
  exchanges = q.whole.exchanges;
  heads = record { request = q.whole.request; response = q.response };
  sent = [];
  body = [];
}

-- its response, as the writer has it
pub same-exchange : (asked : Asked) (read : Facts × BodyFrame) (e : Engine) (s : Settings) (m given : List ℕ)
    (q : HasReadHeads asked read e s m given) (text : List ℕ) (chunked : Bool) → text ≡ e.head → chunked ≡ is_chunked read.1
    → filter.response_of (judged_by s (table_of q.whole.exchanges) (begun asked read e s m given q).heads) text chunked
    ≡ coming_response s (begun asked read e s m given q)
same-exchange asked read e s m given q text chunked text_is chunked_is =
    rw (text_is ∙ q.whole.buffer ∙ sym q.bytes, chunked_is ∙ ap is_chunked q.frame_is) refl

spelled : (asked : Asked) (read : Facts × BodyFrame) (e : Engine) (s : Settings) (m given : List ℕ)
    (q : HasReadHeads asked read e s m given) → m ≡ coming_text (begun asked read e s m given q)
spelled asked read e s m given q =
    q.whole.spells ∙ ap (λ t. exchanges_text q.whole.exchanges (q.whole.request.bytes ++ t)) (sym (append-nil _ ∙ q.bytes))

-- what is owed of it, after what was given and gathered
owed : (asked : Asked) (read : Facts × BodyFrame) (e : Engine) (s : Settings) (m given : List ℕ)
    (q : HasReadHeads asked read e s m given) (y : filter.Response) → y ≡ coming_response s (begun asked read e s m given q)
    → (given ++ gathered_by e.writer) ++ written_so_far s.job y [] ≡ coming_written s (begun asked read e s m given q)
owed asked read e s m given q y is =
    ap (λ t. t ++ written_so_far s.job y []) q.whole.gave
    ∙ ap (λ (z : filter.Response). written_exchanges s map.empty 0 q.whole.exchanges ++ written_so_far s.job z []) is

pub begun-fills : (incoming : Incoming) (asked : Asked) (read : Facts × BodyFrame) (e e' : Engine) (s : Settings) (m given more : List ℕ)
    (q : HasReadHeads asked read e s m given) (y : filter.Response) → IsKept e e'
    → y ≡ coming_response s (begun asked read e s m given q)
    → (given ++ more) ++ gathered_by e'.writer ≡ (given ++ gathered_by e.writer) ++ written_so_far s.job y []
    → WriterReads e'.writer s y []
    → UnframerHasRead incoming.unframer read.1 [] [] → incoming.to_end ≡ is_to_end read.1 → incoming.id ≡ id_of asked.asks
    → Fills incoming e' s m (given ++ more)
begun-fills incoming asked read e e' s m given more q y kept is gave reads unframer to_end id =
    let stands = subst (λ (g : BodyFrame). StandsAt incoming.unframer g [] []) q.frame_is unframer.stands in
    record {
      coming = begun asked read e s m given q;
      spells = spelled asked read e s m given q;
      whole = q.whole.whole;
      good = record { request = q.whole.good; response = q.good };
      prefix = prefix_read incoming.unframer q.response.frame [] [] stands;
      gave = gave ∙ owed asked read e s m given q y is;
      taken = kept.taken ∙ q.whole.taken;
      common = common-kept e e' s q.whole.exchanges given more kept q.whole.common;
      receives = record {
        unframer = record { stands = stands };
        writer = subst (λ (z : filter.Response). WriterReads e'.writer s z []) is reads;
        media = kept.media ∙ q.whole.media;
        id = id ∙ ap id_of q.whole.asks;
        to_end = to_end ∙ ap is_to_end q.frame_is;
      };
    }

pub begun-breaks : (asked : Asked) (read : Facts × BodyFrame) (e e' : Engine) (s : Settings) (m given more : List ℕ)
    (q : HasReadHeads asked read e s m given) (y : filter.Response) → IsKept e e'
    → y ≡ coming_response s (begun asked read e s m given q)
    → IsPrefix (given ++ more) ((given ++ gathered_by e.writer) ++ written_so_far s.job y [])
    → Breaks e' s m false (given ++ more)
begun-breaks asked read e e' s m given more q y kept is within =
    let c = begun asked read e s m given q in
    let (u, stands) = starts q.response.frame in
    breaks-body e' s m given more q.whole.exchanges _ (rw kept.told q.whole.common.told)
    (subst (λ (t : List ℕ). IsPrefix (given ++ more) t) (owed asked read e s m given q y is) within)
    (seen-body s m q.whole.exchanges c.heads [] [] u (spelled asked read e s m given q) q.whole.whole
    (record { request = q.whole.good; response = q.good }) (prefix_read u q.response.frame [] [] stands) (record { stands = stands }))
