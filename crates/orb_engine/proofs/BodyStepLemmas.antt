-- Steps through bodies.
use Rattle.std.proofs.Common.{◌≡◌, ℕ, ◌+◌, ◌<◌, ◌≤◌, ◌^◌, false, List, [], ◌∷◌, ◌++◌, length, take, drop, get_or, refl, sym, ap, subst, ◌∙◌, arith, append_assoc, length-append, add-one, zero, suc}
use Rattle.std.specs.FinMap as map
use Rattle.std.proofs.lemmas.List.{append-nil, take-append-drop, length-take-le, take_more}
use Rattle.std.proofs.Math.Seq.{drop-cons}
use Rattle.http_exchange.specs.Frames.{IsBodyPrefix}
use Rattle.http_exchange.specs.Reads.{Gets, Refuses}
use Rattle.http_exchange.specs.declared.unframing.Unframer.{Unframer}
use Rattle.http_exchange.specs.declared.refusals.BadKind.TheVariants.{BadChunk}
use Rattle.orb_engine.specs.declared.settings.Settings.{Settings}
use Rattle.orb_engine.specs.declared.engine.Engine.{Engine}
use Rattle.orb_engine.specs.declared.engine.states.Incoming.{Incoming}
use Rattle.orb_engine.specs.declared.engine.states.State.{State}
use Rattle.orb_engine.specs.declared.engine.states.State.TheVariants as state
use Rattle.orb_engine.specs.declared.outcome.EngineOutcome.TheVariants as outcome
use Rattle.exchanges.specs.Heads.{Heads}
use Rattle.orb_engine.specs.Judged.{response_of}
use Rattle.orb_engine.specs.Recording as cut
use Rattle.orb_engine.specs.Recording.{Exchange, Tail, IsTail, IsOpenBody, heads_text, exchanges_text, tail_text}
use Rattle.orb_engine.specs.Ends as ends
use Rattle.orb_engine.specs.Ends.{stop_of}
use Rattle.orb_engine.specs.Outputs.{output_of, written_exchanges, written_so_far}
use Rattle.orb_engine.specs.Counts.{rules_of, rules_of_exchanges}
use Rattle.orb_engine.specs.Writing.{gathered_by, body_of}
use Rattle.orb_engine.specs.Reads.{Coming, coming_written, coming_text, open_cut, table_of, counts_of, Common, Receives, AtBody, Stands, Reads, Stops, Passes, IsInBody, with_unframer}
use Rattle.orb_engine.proofs.CutLemmas.{exchanges_text-append, exchanges_text-length}
use Rattle.orb_engine.proofs.FillLemmas.{output-body}
use Rattle.orb_engine.proofs.StepLemmas.{prefix-short}
use Rattle.orb_engine.proofs.HeadStepLemmas.{IsSameHead, common-same}

body-at : (t : State) (incoming : Incoming) (e : Engine) (s : Settings) (exchanges : List Exchange) (tail : Tail) → t ≡ state.Body incoming
    → Stands t e s exchanges tail → AtBody incoming e s exchanges tail
body-at t incoming e s exchanges tail is h = subst (λ (u : State). Stands u e s exchanges tail) is h

-- an engine in a body
pub record HasOpenBody (incoming : Incoming) (e : Engine) (s : Settings) (m given : List ℕ) : Type 0 where
  pub coming : Coming
  pub spells : m ≡ coming_text coming
  pub whole : cut.AreExchanges s map.empty coming.exchanges
  pub sending : IsOpenBody (table_of coming.exchanges) coming.heads coming.sent coming.body
  pub gave : given ++ gathered_by e.writer ≡ coming_written s coming
  pub taken : e.progress.taken ≡ length m
  pub common : Common e s coming.exchanges given
  pub receives : Receives incoming e s coming

pub open-body : (incoming : Incoming) (e : Engine) (s : Settings) (m given : List ℕ) → Reads e s m given → e.state ≡ state.Body incoming
    → HasOpenBody incoming e s m given
open-body incoming e s m given r is =
    let a = body-at e.state incoming e s r.exchanges r.tail is r.stands in
    record {
      coming = record { exchanges = r.exchanges; heads = a.heads; sent = a.sent; body = a.body };
      spells = r.cut.spells ∙ ap (λ t. exchanges_text r.exchanges (tail_text t [])) a.is ∙ ap (λ x. exchanges_text r.exchanges (heads_text a.heads x)) (append-nil a.sent);
      whole = r.cut.exchanges;
      sending = subst (λ (t : Tail). IsTail (table_of r.exchanges) t) a.is r.cut.tail;
      gave = r.gave ∙ ap (λ t. output_of s (open_cut r.exchanges t) false) a.is ∙ output-body s r.exchanges a.heads a.sent a.body [];
      taken = r.taken;
      common = r.common;
      receives = a.receives;
    }

exchanges_text-more : (exchanges : List Exchange) (h : Heads) (sent x : List ℕ)
    → exchanges_text exchanges (heads_text h sent) ++ x ≡ exchanges_text exchanges (heads_text h (sent ++ x))
exchanges_text-more exchanges h sent x =
    exchanges_text-append exchanges (heads_text h sent) x
    ∙ ap (exchanges_text exchanges) (append_assoc h.request.bytes (h.response.bytes ++ sent) x
    ∙ ap (λ t. h.request.bytes ++ t) (append_assoc h.response.bytes sent x))

pub in-body : (t : State) → IsInBody t → (i : Incoming) × (t ≡ state.Body i)
in-body state.Idle h = absurd h
in-body state.RequestHead h = absurd h
in-body (state.ResponseHead asked) h = absurd h
in-body (state.Body i) h = (i, refl)

-- the unframer took the first bytes of a piece
pub body-got : (incoming : Incoming) (u : Unframer) (e e' : Engine) (s : Settings) (m given piece body : List ℕ) (used : ℕ)
    (h : HasOpenBody incoming e s m given) → IsSameHead e e'
    → Gets u h.coming.heads.response.frame h.coming.sent h.coming.body piece body used
    → e'.progress.taken ≡ e.progress.taken + used
    → Passes (with_unframer incoming u) e' s (m ++ take used piece) body given
body-got incoming u e e' s m given piece body used h same gets taken =
    let c = h.coming in
    record {
      coming = record { exchanges = c.exchanges; heads = c.heads; sent = c.sent ++ take used piece; body = c.body };
      spells = ap (λ x. x ++ take used piece) h.spells ∙ exchanges_text-more c.exchanges c.heads c.sent (take used piece);
      whole = h.whole;
      good = h.sending.heads;
      prefix = gets.prefix;
      gave = ap (λ w. given ++ gathered_by w) same.writer ∙ h.gave;
      taken = omega (arith, taken, h.taken, length-append m (take used piece), length-take-le used piece gets.within);
      common = common-same e e' s c.exchanges given same h.common;
      unframer = gets.reads;
      writer = rw same.writer h.receives.writer;
      media = same.media ∙ h.receives.media;
      id = h.receives.id;
      to_end = h.receives.to_end;
    }

-- its content fits
pub body-few : (incoming : Incoming) (u : Unframer) (e : Engine) (s : Settings) (m given piece body : List ℕ) (used : ℕ)
    (h : HasOpenBody incoming e s m given)
    → Gets u h.coming.heads.response.frame h.coming.sent h.coming.body piece body used
    → e.progress.taken + length piece ≤ 2 ^ 62 → body_of e.writer + length body ≤ 2 ^ 62
body-few incoming u e s m given piece body used h gets few =
    let c = h.coming in
    let short = prefix-short c.heads.response.frame (c.sent ++ take used piece) (c.body ++ body) gets.prefix in
    let size : length m ≡ length (exchanges_text c.exchanges []) + length (heads_text c.heads c.sent) =
    ap length h.spells ∙ exchanges_text-length c.exchanges (heads_text c.heads c.sent) in
    let heads : length (heads_text c.heads c.sent) ≡ length c.heads.request.bytes + (length c.heads.response.bytes + length c.sent) =
    simp length-append in
    omega (arith, h.taken, h.receives.writer.body, length-append c.body body, length-append c.sent (take used piece), length-take-le used piece gets.within, gets.within)

split-at : (piece : List ℕ) (at : ℕ) → at < length piece
    → (take at piece ++ (get_or piece at 0 ∷ drop (at + 1) piece) ≡ piece)
    × (take (at + 1) piece ≡ take at piece ++ (get_or piece at 0 ∷ []))
split-at piece at within =
    let more : drop at piece ≡ get_or piece at 0 ∷ drop (at + 1) piece =
    rw add-one (drop-cons piece at 0 within) in
    (ap (λ t. take at piece ++ t) (sym more) ∙ take-append-drop at piece, take_more piece at 0 within)

pub output-bad : (s : Settings) (exchanges : List Exchange) (h : Heads) (sent body : List ℕ) (b : ℕ) (more : List ℕ)
    → output_of s (record { exchanges = exchanges; tail = cut.BadBody h sent body b; more = more }) false
    ≡ written_exchanges s map.empty 0 exchanges ++ written_so_far s.job (response_of s (table_of exchanges) h) body
unfolding output_of
output-bad s exchanges h sent body b more = refl

rules-bad : (s : Settings) (exchanges : List Exchange) (h : Heads) (sent body : List ℕ) (b : ℕ) (more : List ℕ)
    → rules_of s (record { exchanges = exchanges; tail = cut.BadBody h sent body b; more = more }) false ≡ rules_of_exchanges exchanges
unfolding rules_of
rules-bad s exchanges h sent body b more = append-nil _

-- the unframer refused a byte of the piece
pub body-bad : (incoming : Incoming) (u : Unframer) (e e' : Engine) (s : Settings) (m given piece : List ℕ) (at : ℕ)
    (h : HasOpenBody incoming e s m given) → IsSameHead e e'
    → Refuses u h.coming.heads.response.frame h.coming.sent h.coming.body piece at
    → Stops (outcome.Bad BadChunk (e.progress.taken + at)) e' s (m ++ piece) false given
unfolding stop_of
body-bad incoming u e e' s m given piece at h same refuses =
    let c = h.coming in
    let b = get_or piece at 0 in
    let (whole, next) = split-at piece at refuses.bad.within in
    let sent = c.sent ++ take at piece in
    let size = exchanges_text-length c.exchanges (heads_text c.heads c.sent) in
    let heads : length (heads_text c.heads c.sent) ≡ length c.heads.request.bytes + (length c.heads.response.bytes + length c.sent) =
    simp length-append in
    record {
      recording = record { exchanges = c.exchanges; tail = cut.BadBody c.heads sent c.body b; more = drop (at + 1) piece };
      cut = record {
        spells = ap (λ x. x ++ piece) h.spells ∙ exchanges_text-more c.exchanges c.heads c.sent piece
            ∙ ap (λ x. exchanges_text c.exchanges (heads_text c.heads x))
            (ap (λ x. c.sent ++ x) (sym whole) ∙ sym (append_assoc c.sent (take at piece) (b ∷ drop (at + 1) piece)));
        exchanges = h.whole;
        tail = record {
          sending = record {
            heads = h.sending.heads;
            prefix = refuses.bad.before;
            unfinished = refuses.bad.unfinished;
          };
          chunked = refuses.chunked;
          bad = λ g prefix. refuses.bad.bad g (subst (λ (x : List ℕ). IsBodyPrefix c.heads.response.frame x g)
              (append_assoc c.sent (take at piece) (b ∷ []) ∙ ap (λ x. c.sent ++ x) (sym next)) prefix);
        };
        last = λ never. absurd (cc never);
      };
      stop = ap (λ p. ends.Bad BadChunk p)
          (omega (arith, h.taken, ap length h.spells, size, heads, length-append c.sent (take at piece), length-take-le at piece (omega (arith, refuses.bad.within))));
      gave = ap (λ w. given ++ gathered_by w) same.writer ∙ h.gave ∙ sym (output-bad s c.exchanges c.heads sent c.body b (drop (at + 1) piece));
      counts = same.counts ∙ h.common.counts ∙ ap counts_of (sym (rules-bad s c.exchanges c.heads sent c.body b (drop (at + 1) piece)));
      told = rw same.told h.common.told;
    }

pub not-zero : (n : ℕ) → (n ≡ 0 → ⊥) → 1 ≤ n
not-zero zero h = absurd (h refl)
not-zero (suc n) h = omega arith
