-- What is known of an answer once its response was relayed.
use Rattle.std.proofs.Common.{◌≡◌, ℕ, Bool, false, List, [], refl, sym, ap, subst, ◌∙◌, Ok, Err, Option, Some, inl, arith}
use Rattle.std.proofs.lemmas.Bool.{false≢true}
use Rattle.std.proofs.lemmas.List.{append-nil}
use Rattle.orb_io.specs.Told.{Told, Gives, Gains}
use Rattle.orb_io.proofs.ToldLemmas.{Loses-none}
use Rattle.orb_io.proofs.GivesLemmas.{Gives-weaker}
use Rattle.live_proxy.proofs.GatherLemmas.{open-none}
use Rattle.live_proxy.proofs.RelayLemmas.{no-head}
use Rattle.media_state.specs.Table.{States, stored}
use Rattle.media_state.specs.declared.states.MediaState.{MediaState}
use Rattle.exchanges.specs.Heads.{id_of}
use Rattle.exchanges.specs.declared.room.Context.{Context}
use Rattle.response_rules.specs.declared.verdicts.Policy.TheVariants.{Orb}
use Rattle.live_proxy.specs.Requests.{Request}
use Rattle.live_proxy.specs.Proxies.{limit_of, table_of, Holds}
use Rattle.live_proxy.specs.declared.proxy.Proxy.{Proxy}
use Rattle.live_proxy.specs.declared.proxy.Asked.{Asked}
use Rattle.live_proxy.specs.Answers.{context_of, Stops, AnswerSays, Answered, Sends, AnswerCauses}
use Rattle.live_proxy.specs.Relaying.{Pulled, RelaySays, RelayCauses, is_endless}
use Rattle.live_proxy.specs.declared.outcomes.ProxyOutcome.TheVariants as outcome
use Rattle.live_proxy.specs.declared.outcomes.ProxyOutcome.{ProxyOutcome}

-- the state is kept of a whole response
pub answered-done : (c : Context) (table table' : States) (state : MediaState) (left left' : Option (List ℕ)) (given : List ℕ)
    → table' ≡ stored table (id_of c.asks) state
    → Pulled (Ok state) left left' [] (RelaySays (Ok state) c) given
    → Answered outcome.Done c table table' left left' given
answered-done c table table' state left left' given kept p = record {
  read = p.read;
  ended = p.ended;
  lost = p.lost;
  at_end = p.at_end;
  fits = λ _. p.fits refl;
  says = record {
    coming = p.says.coming;
    more = p.says.more;
    is = p.says.is;
    holds = (p.says.holds.0, kept ∙ ap (stored table (id_of c.asks)) p.says.holds.1);
    gave = p.says.gave;
  };
}

-- the table stays as it was
stop-says : (o : ProxyOutcome) (c : Context) (table : States) (read : List ℕ) (ended : Bool) (given : List ℕ)
    → Stops o c read ended given → AnswerSays o c table table read ended given
stop-says outcome.Done c table read ended given stops = absurd stops
stop-says (outcome.Bad kind) c table read ended given stops = (refl, stops)
stop-says outcome.Cut c table read ended given stops = (refl, stops)
stop-says outcome.HeadLimit c table read ended given stops = (refl, stops)
stop-says outcome.Endless c table read ended given stops = (refl, stops)
stop-says outcome.PeerFault c table read ended given stops = (refl, stops)
stop-says outcome.WriteFault c table read ended given stops = (refl, stops)

not-endless : (o : ProxyOutcome) → (o ≡ outcome.Endless → ⊥) → is_endless o ≡ false
not-endless outcome.Done other = refl
not-endless (outcome.Bad kind) other = refl
not-endless outcome.Cut other = refl
not-endless outcome.HeadLimit other = refl
not-endless outcome.Endless other = absurd (other refl)
not-endless outcome.PeerFault other = refl
not-endless outcome.WriteFault other = refl

pub answered-stop : (o : ProxyOutcome) (c : Context) (table table' : States) (left left' : Option (List ℕ)) (given : List ℕ)
    → table' ≡ table → Pulled {T = MediaState} (Err o) left left' [] (RelaySays (Err o) c) given
    → Answered o c table table' left left' given
answered-stop o c table table' left left' given same p = record {
  read = p.read;
  ended = p.ended;
  lost = p.lost;
  at_end = p.at_end;
  fits = λ other. p.fits (not-endless o other);
  says = subst (λ (t : States). AnswerSays o c table t p.read p.ended given) (sym same)
      (stop-says o c table p.read p.ended given p.says);
}

-- the whole head was sent before
sent-whole : (o : ProxyOutcome) (told told' : Told) (head : List ℕ) → Gains told told' head → Sends o told told' head
sent-whole outcome.Done told told' head gains = gains
sent-whole (outcome.Bad kind) told told' head gains = gains
sent-whole outcome.Cut told told' head gains = gains
sent-whole outcome.HeadLimit told told' head gains = gains
sent-whole outcome.Endless told told' head gains = gains
sent-whole outcome.PeerFault told told' head gains = (head, ([], sym (append-nil head)), gains)
sent-whole outcome.WriteFault told told' head gains = gains

pub sent : (o : ProxyOutcome) (told told' told'' : Told) (text head : List ℕ) → text ≡ head → told'' ≡ told'
    → Gains told told' text → Sends o told told'' head
sent o told told' told'' text head is after gains =
    rw (after, ← is) (sent-whole o told told' text gains)

-- whose fault a stop is
stop-causes : (o : ProxyOutcome) (source source' sink sink' client client' : ℕ) → sink' ≡ sink
    → RelayCauses {T = MediaState} (Err o) source source' client client' → AnswerCauses o source source' sink sink' client client'
stop-causes outcome.Done s s' k k' l l' same causes = (causes.0, same, causes.1)
stop-causes (outcome.Bad kind) s s' k k' l l' same causes = (causes.0, same, causes.1)
stop-causes outcome.Cut s s' k k' l l' same causes = (causes.0, same, causes.1)
stop-causes outcome.HeadLimit s s' k k' l l' same causes = (causes.0, same, causes.1)
stop-causes outcome.Endless s s' k k' l l' same causes = (causes.0, same, causes.1)
stop-causes outcome.PeerFault s s' k k' l l' same causes = (inl (causes.0, same), causes.1)
stop-causes outcome.WriteFault s s' k k' l l' same causes = (causes.0, same, causes.1)

pub answer-causes : (o : ProxyOutcome) (source source' source'' sink sink' client client' : ℕ) → source' ≡ source → sink' ≡ sink
    → RelayCauses {T = MediaState} (Err o) source' source'' client client'
    → AnswerCauses o source source'' sink sink' client client'
answer-causes o source source' source'' sink sink' client client' before same causes =
    stop-causes o source source'' sink sink' client client' same (rw (← before) causes)

-- what the request that was taken is judged by
pub context-is : (p : Proxy) (r : Request) (asked : Asked) (limit : ℕ) → Holds p r → p.asked ≡ Some asked → limit ≡ limit_of p
    → record { policy = Orb; state = asked.state; asks = asked.asks; limit = limit }
    ≡ context_of (limit_of p) (table_of p) r.text.asks
context-is p r asked limit h is at =
    let same : asked ≡ h.asked = same_asked asked h.asked (sym is ∙ h.is) in
    rw (at, same, h.state, h.asks) refl
  where
    same_asked : (a b : Asked) → Some a ≡ Some b → a ≡ b
    same_asked a b e = cc

-- nothing came back
pub unanswered : (c : Context) (table : States) (left left' : Option (List ℕ)) → left' ≡ left
    → Answered outcome.PeerFault c table table left left' []
unanswered c table left left' same = record {
  read = [];
  ended = false;
  lost = rw same (Loses-none left);
  at_end = λ never. absurd (false≢true never);
  fits = λ _. omega arith;
  says = (refl, (refl, no-head c [] open-none));
}

-- a whole response came back
pub gives-done : (old new : Told) (c c' : Context) (table table' : States) (state : MediaState) (left left' left'' : Option (List ℕ))
    → c ≡ c' → left' ≡ left → table' ≡ stored table (id_of c.asks) state
    → Gives old new [] (Pulled (Ok state) left' left'' [] (RelaySays (Ok state) c))
    → Gives old new [] (Answered outcome.Done c' table table' left left'')
gives-done old new c c' table table' state left left' left'' same before kept gives =
    rw (← same, ← before) (Gives-weaker old new [] _ _ (λ more p. answered-done c table table' state left' left'' more kept p) gives)

-- it stopped
pub gives-stop : (o : ProxyOutcome) (old new : Told) (c c' : Context) (table : States) (left left' left'' : Option (List ℕ))
    → c ≡ c' → left' ≡ left → Gives old new [] (Pulled {T = MediaState} (Err o) left' left'' [] (RelaySays (Err o) c))
    → Gives old new [] (Answered o c' table table left left'')
gives-stop o old new c c' table left left' left'' same before gives =
    rw (← same, ← before) (Gives-weaker old new [] _ _ (λ more p. answered-stop o c table table left' left'' more refl p) gives)
