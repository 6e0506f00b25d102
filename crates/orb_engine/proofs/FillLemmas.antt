-- What becomes of a body that has come.
use Rattle.std.proofs.Common.{◌≡◌, ℕ, ◌+◌, ◌^◌, ◌<◌, ◌≤◌, Bool, false, List, [], ◌∷◌, ◌++◌, length, Result, Ok, Err, refl, sym, ap, subst, ◌∙◌, arith, lit<, append_assoc, length-append}
use Rattle.std.specs.FinMap as map
use Rattle.std.proofs.lemmas.List.{append-nil}
use Rattle.orb_io.specs.Told.{IsPrefix}
use Rattle.http_exchange.specs.Head.{head_length}
use Rattle.http_exchange.specs.Frames.{IsWhole}
use Rattle.http_exchange.proofs.EndLemmas.{head_length-bounds}
use Rattle.orb_engine.specs.declared.settings.Settings.{Settings}
use Rattle.orb_engine.specs.declared.progress.Counts.{Counts}
use Rattle.orb_engine.specs.declared.engine.Engine.{Engine}
use Rattle.orb_engine.specs.declared.engine.states.Incoming.{Incoming}
use Rattle.orb_engine.specs.declared.engine.states.State.{State}
use Rattle.orb_engine.specs.declared.engine.states.State.TheVariants as state
use Rattle.orb_engine.specs.declared.outcome.EngineOutcome.{EngineOutcome}
use Rattle.orb_engine.specs.declared.outcome.EngineOutcome.TheVariants as outcome
use Rattle.http_exchange.specs.HeadTexts.{head_limit, IsOpenHead}
use Rattle.exchanges.specs.Heads.{Heads}
use Rattle.orb_engine.specs.Judged.{response_of}
use Rattle.orb_engine.specs.Recording as cut
use Rattle.orb_engine.specs.Recording.{Exchange, IsRecording, heads_text, exchanges_text}
use Rattle.orb_engine.specs.Outputs.{output_of, written_exchanges, written_so_far, written_whole}
use Rattle.orb_engine.specs.Counts.{rules_of_exchanges}
use Rattle.orb_engine.specs.Reads.{Coming, coming_response, open_cut, table_of, counts_of, IsTold, Stands, Reads, Fills, FillsAt, Settles}
use Rattle.orb_engine.specs.Closing.{Closes, coming_rule, closed_written}
use Rattle.orb_engine.proofs.CutLemmas.{exchanges_text-length, exchanges_text-snoc, table-snoc, exchanges-snoc, written-snoc, rules-snoc, count-sum, rules-length, exchanges-few}

pub at-filled : (t : State) (incoming : Incoming) (e : Engine) (s : Settings) (m given : List ℕ) → t ≡ state.Body incoming
    → FillsAt t e s m given → Fills incoming e s m given
at-filled t incoming e s m given is h = subst (λ (u : State). FillsAt u e s m given) is h

pub stands-as : (t t' : State) (e : Engine) (s : Settings) (exchanges : List Exchange) (tail : cut.Tail) → t ≡ t'
    → Stands t' e s exchanges tail → Stands t e s exchanges tail
stands-as t t' e s exchanges tail is h = subst (λ (u : State). Stands u e s exchanges tail) (sym is) h

-- what is written where no tail adds to it
pub output-request_head : (s : Settings) (exchanges : List Exchange) (head more : List ℕ) (ended : Bool)
    → output_of s (record { exchanges = exchanges; tail = cut.InRequestHead head; more = more }) ended ≡ written_exchanges s map.empty 0 exchanges
unfolding output_of
output-request_head s exchanges head more ended = append-nil _

pub output-body : (s : Settings) (exchanges : List Exchange) (h : Heads) (sent body more : List ℕ)
    → output_of s (record { exchanges = exchanges; tail = cut.InBody h sent body; more = more }) false
    ≡ written_exchanges s map.empty 0 exchanges ++ written_so_far s.job (response_of s (table_of exchanges) h) body
unfolding output_of
output-body s exchanges h sent body more = refl

pub empty-open : IsOpenHead []
unfolding head_limit head_length
empty-open = record { open_ = refl; fits = lit< tt }

-- fewer exchanges than bytes
pub few-exchanges : (incoming : Incoming) (e : Engine) (s : Settings) (m given : List ℕ) → Fills incoming e s m given
    → e.progress.taken ≤ 2 ^ 62 → e.progress.counts.allowed + e.progress.counts.blocked < 2 ^ 62
few-exchanges incoming e s m given f fits =
    let c = f.coming in
    let few = exchanges-few s map.empty c.exchanges [] f.whole in
    let some = head_length-bounds c.heads.request.bytes (length c.heads.request.bytes) f.good.request.head.text.ends in
    let size : length m ≡ length (exchanges_text c.exchanges []) + length (heads_text c.heads c.sent) =
    ap length f.spells ∙ exchanges_text-length c.exchanges (heads_text c.heads c.sent) in
    let heads : length (heads_text c.heads c.sent) ≡ length c.heads.request.bytes + (length c.heads.response.bytes + length c.sent) =
    simp length-append in
    let counts : e.progress.counts.allowed + e.progress.counts.blocked ≡ length c.exchanges =
    rw f.common.counts (count-sum (rules_of_exchanges c.exchanges) ∙ rules-length c.exchanges) in
    omega (arith, f.taken)

spelled : (incoming : Incoming) (e : Engine) (s : Settings) (m given : List ℕ) (f : Fills incoming e s m given)
    → m ≡ exchanges_text f.coming.exchanges (heads_text f.coming.heads (f.coming.sent ++ []))
spelled incoming e s m given f =
    f.spells ∙ ap (λ t. exchanges_text f.coming.exchanges (heads_text f.coming.heads t)) (sym (append-nil f.coming.sent))

-- the body may go on
pub goes-on : (incoming : Incoming) (e : Engine) (s : Settings) (m given : List ℕ) (f : Fills incoming e s m given)
    → e.state ≡ state.Body incoming → (IsWhole f.coming.heads.response.frame f.coming.sent → ⊥) → Reads e s m given
goes-on incoming e s m given f is unfinished =
    let c = f.coming in
    record {
      exchanges = c.exchanges;
      tail = cut.InBody c.heads c.sent c.body;
      cut = record {
        spells = spelled incoming e s m given f;
        exchanges = f.whole;
        tail = record { heads = f.good; prefix = f.prefix; unfinished = unfinished };
        last = λ _. refl;
      };
      open_ = refl;
      gave = f.gave ∙ sym (output-body s c.exchanges c.heads c.sent c.body []);
      taken = f.taken;
      common = f.common;
      stands = stands-as e.state (state.Body incoming) e s c.exchanges _ is (record {
        heads = c.heads;
        sent = c.sent;
        body = c.body;
        is = refl;
        receives = f.receives;
      });
    }

-- the exchange, where its body ends here
abbrev pub whole_exchange : Settings → Coming → Exchange
whole_exchange s c = record { heads = c.heads; sent = c.sent; body = c.body; rule = coming_rule s c }

-- the recording with the exchange that has been closed
closed-cut : (incoming : Incoming) (e : Engine) (s : Settings) (m given : List ℕ) (f : Fills incoming e s m given)
    → IsWhole f.coming.heads.response.frame f.coming.sent
    → IsRecording s m (open_cut (f.coming.exchanges ++ (whole_exchange s f.coming ∷ [])) (cut.InRequestHead []))
closed-cut incoming e s m given f whole =
    let i = whole_exchange s f.coming in
    record {
      spells = spelled incoming e s m given f ∙ sym (exchanges_text-snoc f.coming.exchanges i []);
      exchanges = exchanges-snoc s map.empty f.coming.exchanges i f.whole (record { heads = f.good; prefix = f.prefix; whole = whole; decided = refl });
      tail = empty-open;
      last = λ _. refl;
    }

pub closed-output : (s : Settings) (c : Coming)
    → closed_written s c ≡ output_of s (open_cut (c.exchanges ++ (whole_exchange s c ∷ [])) (cut.InRequestHead [])) false
closed-output s c =
    ap (λ n. written_exchanges s map.empty 0 c.exchanges ++ written_whole s.job n (coming_response s c) c.body) (omega arith)
    ∙ sym (written-snoc s map.empty 0 c.exchanges (whole_exchange s c))
    ∙ sym (output-request_head s (c.exchanges ++ (whole_exchange s c ∷ [])) [] [] false)

told-snoc : (n : Counts) (s : Settings) (exchanges : List Exchange) (i : Exchange) (wrote : List ℕ) → IsTold n s exchanges wrote → IsTold n s (exchanges ++ (i ∷ [])) wrote
told-snoc n s exchanges i wrote told = record {
  prefix = told.prefix;
  others = told.others ++ (i ∷ []);
  are = ap (λ t. t ++ (i ∷ [])) told.are ∙ append_assoc told.prefix told.others (i ∷ []);
  numbers = told.numbers;
  whole = told.whole;
}

-- what the answer of closing says of the recording
pub settled : (r : Result (Unit {0}) EngineOutcome) (incoming : Incoming) (e e' : Engine) (s : Settings) (m given given' : List ℕ)
    (f : Fills incoming e s m given) → IsWhole f.coming.heads.response.frame f.coming.sent
    → Closes r e' s f.coming given' → e'.progress.taken ≡ e.progress.taken → Settles r e' s m given'
settled (Ok done) incoming e e' s m given given' f whole closed taken =
    let c = f.coming in
    let i = whole_exchange s c in
    let recording = closed-cut incoming e s m given f whole in
    record {
      exchanges = c.exchanges ++ (i ∷ []);
      tail = cut.InRequestHead [];
      cut = recording;
      open_ = refl;
      gave = closed.gave ∙ closed-output s c;
      taken = taken ∙ f.taken;
      common = record {
        settings = closed.settings;
        offset = closed.offset ∙ taken ∙ f.taken ∙ ap length recording.spells;
        counts = closed.counts ∙ ap counts_of (sym (rules-snoc c.exchanges i));
        told = told-snoc e'.progress.told s c.exchanges i _ closed.told;
      };
      stands = stands-as e'.state state.RequestHead e' s (c.exchanges ++ (i ∷ [])) _ closed.asking (record {
        head = [];
        is = refl;
        text = closed.head;
        media = closed.media ∙ sym (table-snoc map.empty c.exchanges i);
        writer = closed.writer;
      });
    }
settled (Err outcome.WriteFault) incoming e e' s m given given' f whole falls taken =
    let i = whole_exchange s f.coming in
    record {
      seen = m;
      unseen = [];
      all = sym (append-nil m);
      all_seen = λ _. refl;
      recording = open_cut (f.coming.exchanges ++ (i ∷ [])) (cut.InRequestHead []);
      cut = closed-cut incoming e s m given f whole;
      within = subst (λ (t : List ℕ). IsPrefix given' t) (closed-output s f.coming) falls.within;
      told = told-snoc e'.progress.told s f.coming.exchanges i _ falls.told;
    }
settled (Err outcome.Done) incoming e e' s m given given' f whole never taken = absurd never
settled (Err (outcome.Bad kind at)) incoming e e' s m given given' f whole never taken = absurd never
settled (Err (outcome.Cut at)) incoming e e' s m given given' f whole never taken = absurd never
settled (Err (outcome.HeadLimit at)) incoming e e' s m given given' f whole never taken = absurd never
settled (Err (outcome.MediaFull at)) incoming e e' s m given given' f whole never taken = absurd never
settled (Err outcome.Endless) incoming e e' s m given given' f whole never taken = absurd never
settled (Err outcome.ReadFault) incoming e e' s m given given' f whole never taken = absurd never
