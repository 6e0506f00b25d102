-- How a recording ends where no more comes.
use Rattle.std.proofs.Common.{◌≡◌, ℕ, ◌+◌, ◌^◌, ◌<◌, ◌≤◌, true, false, List, [], ◌∷◌, ◌++◌, Result, Ok, Err, refl, sym, ap, ◌∙◌}
use Rattle.std.proofs.lemmas.List.{append-nil}
use Rattle.orb_engine.specs.declared.settings.Settings.{Settings}
use Rattle.orb_engine.specs.declared.engine.Engine.{Engine}
use Rattle.orb_engine.specs.declared.engine.states.Asked.{Asked}
use Rattle.orb_engine.specs.declared.engine.states.Incoming.{Incoming}
use Rattle.orb_engine.specs.declared.outcome.EngineOutcome.{EngineOutcome}
use Rattle.orb_engine.specs.declared.outcome.EngineOutcome.TheVariants as outcome
use Rattle.exchanges.specs.Heads.{Heads, is_to_end}
use Rattle.orb_engine.specs.Recording as cut
use Rattle.orb_engine.specs.Recording.{Exchange, IsRecording, heads_text, exchanges_text}
use Rattle.orb_engine.specs.Ends as ends
use Rattle.orb_engine.specs.Ends.{stop_of}
use Rattle.orb_engine.specs.Outputs.{output_of}
use Rattle.orb_engine.specs.Counts.{rules_of, rules_of_exchanges}
use Rattle.http_exchange.specs.HeadTexts.{IsOpenHead}
use Rattle.orb_engine.specs.Reads.{open_cut, counts_of, Stops, Halts, HasRequest, HasResponse}
use Rattle.orb_engine.specs.Closing.{Closes, IsClosing}
use Rattle.orb_engine.proofs.BodyStepLemmas.{HasOpenBody}
use Rattle.orb_engine.proofs.FillLemmas.{few-exchanges}
use Rattle.orb_engine.proofs.HeadStepLemmas.{quiet-stops}

-- how the recording ends after a body that was closed
abbrev pub done_or : Result (Unit {0}) EngineOutcome → EngineOutcome
done_or (Ok done) = outcome.Done
done_or (Err stop) = stop

request-cut : (e : Engine) (s : Settings) (m given head : List ℕ) (h : HasRequest IsOpenHead e s m given) → h.head ≡ head
    → IsRecording s m (open_cut h.exchanges (cut.InRequestHead head))
request-cut e s m given head h is = record {
  spells = h.spells ∙ ap (exchanges_text h.exchanges) (is ∙ sym (append-nil head));
  exchanges = h.whole;
  tail = rw (← is) h.text;
  last = λ _. refl;
}

-- between two exchanges
pub request_head-done : (e : Engine) (s : Settings) (m given : List ℕ) → HasRequest IsOpenHead e s m given → e.head ≡ []
    → Stops outcome.Done e s m true given
unfolding stop_of
request_head-done e s m given h empty =
    quiet-stops outcome.Done e s m given true h.exchanges (cut.InRequestHead []) [] (request-cut e s m given [] h (sym h.buffer ∙ empty)) refl refl refl
    h.gave h.common.counts h.common.told

-- in a request head
pub request_head-cut : (e : Engine) (s : Settings) (m given : List ℕ) → HasRequest IsOpenHead e s m given → (e.head ≡ [] → ⊥)
    → Stops (outcome.Cut e.progress.offset) e s m true given
unfolding stop_of
request_head-cut e s m given h some = by h.head refl
  where
    by : (head : List ℕ) → h.head ≡ head → Stops (outcome.Cut e.progress.offset) e s m true given
    by [] is = absurd (some (h.buffer ∙ is))
    by (b ∷ head) is =
        quiet-stops (outcome.Cut e.progress.offset) e s m given true h.exchanges (cut.InRequestHead (b ∷ head)) [] (request-cut e s m given (b ∷ head) h is) refl refl
        (ap (λ p. ends.Cut p) (sym h.common.offset)) h.gave h.common.counts h.common.told

-- in a response head
pub response_head-cut : (asked : Asked) (e : Engine) (s : Settings) (m given : List ℕ) → HasResponse IsOpenHead asked e s m given
    → Stops (outcome.Cut e.progress.offset) e s m true given
unfolding stop_of
response_head-cut asked e s m given h =
    quiet-stops (outcome.Cut e.progress.offset) e s m given true h.exchanges (cut.InResponseHead h.request h.head) [] (record {
      spells = h.spells ∙ ap (λ x. exchanges_text h.exchanges (h.request.bytes ++ x)) (sym (append-nil h.head));
      exchanges = h.whole;
      tail = (h.good, h.text);
      last = λ _. refl;
    }) refl refl (ap (λ p. ends.Cut p) (sym h.common.offset)) h.gave h.common.counts h.common.told

body-cut : (incoming : Incoming) (e : Engine) (s : Settings) (m given : List ℕ) (h : HasOpenBody incoming e s m given)
    → IsRecording s m (open_cut h.coming.exchanges (cut.InBody h.coming.heads h.coming.sent h.coming.body))
body-cut incoming e s m given h = record {
  spells = h.spells ∙ ap (λ x. exchanges_text h.coming.exchanges (heads_text h.coming.heads x)) (sym (append-nil h.coming.sent));
  exchanges = h.whole;
  tail = h.sending;
  last = λ _. refl;
}

rules-framed : (s : Settings) (exchanges : List Exchange) (h : Heads) (sent body : List ℕ) → is_to_end h.response.frame ≡ false
    → rules_of s (open_cut exchanges (cut.InBody h sent body)) true ≡ rules_of_exchanges exchanges
unfolding rules_of
rules-framed s exchanges h sent body is = rw is (append-nil _)

-- in a body that has an end of its own
pub open_body-cut : (incoming : Incoming) (e : Engine) (s : Settings) (m given : List ℕ) → HasOpenBody incoming e s m given
    → incoming.to_end ≡ false → Stops (outcome.Cut e.progress.offset) e s m true given
unfolding stop_of output_of rules_of
open_body-cut incoming e s m given h framed =
    let c = h.coming in
    let to_end : is_to_end c.heads.response.frame ≡ false = sym h.receives.to_end ∙ framed in
    record {
      recording = open_cut c.exchanges (cut.InBody c.heads c.sent c.body);
      cut = body-cut incoming e s m given h;
      stop = rw to_end (ap (λ p. ends.Cut p) (sym h.common.offset));
      gave = h.gave ∙ rw to_end refl;
      counts = h.common.counts ∙ ap counts_of (sym (rules-framed s c.exchanges c.heads c.sent c.body to_end));
      told = h.common.told;
    }

-- what closing a body asks for
pub closing : (incoming : Incoming) (e : Engine) (s : Settings) (m given : List ℕ) (h : HasOpenBody incoming e s m given)
    → IsClosing e s h.coming incoming.id given
closing incoming e s m given h = record {
  common = h.common;
  gave = h.gave;
  writer = h.receives.writer;
  media = h.receives.media;
  id_is = h.receives.id;
}

pub closing-few : (incoming : Incoming) (e : Engine) (s : Settings) (m given : List ℕ) → HasOpenBody incoming e s m given
    → e.progress.taken ≤ 2 ^ 62 → e.progress.counts.allowed + e.progress.counts.blocked < 2 ^ 62
closing-few incoming e s m given h fits =
    few-exchanges incoming e s m given (record {
      coming = h.coming;
      spells = h.spells;
      whole = h.whole;
      good = h.sending.heads;
      prefix = h.sending.prefix;
      gave = h.gave;
      taken = h.taken;
      common = h.common;
      receives = h.receives;
    }) fits

-- a body that the end of the input ends
pub ended-body : (r : Result (Unit {0}) EngineOutcome) (incoming : Incoming) (e e' : Engine) (s : Settings) (m given given' : List ℕ)
    (h : HasOpenBody incoming e s m given) → incoming.to_end ≡ true → Closes r e' s h.coming given'
    → Halts (done_or r) e' s m true given'
unfolding stop_of output_of rules_of
ended-body (Ok done) incoming e e' s m given given' h to_end closed =
    let is : is_to_end h.coming.heads.response.frame ≡ true = sym h.receives.to_end ∙ to_end in
    record {
      recording = open_cut h.coming.exchanges (cut.InBody h.coming.heads h.coming.sent h.coming.body);
      cut = body-cut incoming e s m given h;
      stop = rw is refl;
      gave = closed.gave ∙ rw is refl;
      counts = closed.counts ∙ rw is refl;
      told = closed.told;
    }
ended-body (Err outcome.WriteFault) incoming e e' s m given given' h to_end falls =
    let is : is_to_end h.coming.heads.response.frame ≡ true = sym h.receives.to_end ∙ to_end in
    record {
      seen = m;
      unseen = [];
      all = sym (append-nil m);
      all_seen = λ _. refl;
      recording = open_cut h.coming.exchanges (cut.InBody h.coming.heads h.coming.sent h.coming.body);
      cut = body-cut incoming e s m given h;
      within = rw is falls.within;
      told = falls.told;
    }
ended-body (Err outcome.Done) incoming e e' s m given given' h to_end never = absurd never
ended-body (Err (outcome.Bad kind at)) incoming e e' s m given given' h to_end never = absurd never
ended-body (Err (outcome.Cut at)) incoming e e' s m given given' h to_end never = absurd never
ended-body (Err (outcome.HeadLimit at)) incoming e e' s m given given' h to_end never = absurd never
ended-body (Err (outcome.MediaFull at)) incoming e e' s m given given' h to_end never = absurd never
ended-body (Err outcome.Endless) incoming e e' s m given given' h to_end never = absurd never
ended-body (Err outcome.ReadFault) incoming e e' s m given given' h to_end never = absurd never
