-- Steps through heads.
use Rattle.std.proofs.Common.{◌≡◌, ℕ, ◌+◌, ◌≤◌, Bool, false, List, [], ◌++◌, length, take, drop, Ok, Err, refl, sym, ap, subst, ◌∙◌, arith, append_assoc, length-append}
use Rattle.std.proofs.lemmas.Bool.{false≢true}
use Rattle.std.specs.FinMap as map
use Rattle.std.proofs.lemmas.List.{append-nil, take-append-drop}
use Rattle.std.proofs.Math.Seq.{take-length}
use Rattle.httparse.specs.Grammar.{status_code}
use Rattle.http_exchange.specs.Heads.{IsResponse}
use Rattle.http_exchange.specs.Fields.{pairs_of}
use Rattle.http_exchange.specs.declared.frames.BodyFrame.{BodyFrame}
use Rattle.response_rules.specs.declared.facts.Facts.{Facts}
use Rattle.response_rules.specs.Facts.{AreFactsOf}
use Rattle.response_rules.specs.Reads.{case_of}
use Rattle.media_state.specs.declared.states.MediaState.{MediaState}
use Rattle.orb_engine.specs.Judged.{context_of}
use Rattle.exchanges.specs.HeadReads.{ReadsWell}
use Rattle.orb_engine.proofs.AnswerLaws.{refusal-stands, exchanges-longer}
use Rattle.http_exchange.specs.Reading.{ReadsRequestHead, ReadsResponseHead}
use Rattle.http_exchange.specs.declared.refusals.BadKind.{BadKind}
use Rattle.http_exchange.specs.declared.request.RequestHead.{RequestHead}
use Rattle.orb_engine.specs.declared.settings.Settings.{Settings}
use Rattle.orb_engine.specs.declared.engine.Engine.{Engine}
use Rattle.orb_engine.specs.declared.engine.states.Asked.{Asked}
use Rattle.orb_engine.specs.declared.engine.states.State.{State}
use Rattle.orb_engine.specs.declared.engine.states.State.TheVariants as state
use Rattle.orb_engine.specs.declared.progress.Progress.{Progress}
use Rattle.orb_engine.specs.Progress.{advanced}
use Rattle.orb_engine.specs.declared.outcome.EngineOutcome.{EngineOutcome}
use Rattle.orb_engine.specs.declared.outcome.EngineOutcome.TheVariants as outcome
use Rattle.http_exchange.specs.HeadTexts.{IsHeadText, IsOpenHead, IsLongHead}
use Rattle.exchanges.specs.Heads.{RequestText, id_of, state_before}
use Rattle.media_state.specs.Table.{admits, IsRefusedId}
use Rattle.orb_engine.specs.Recording as cut
use Rattle.orb_engine.specs.Recording.{Exchange, Tail, IsRecording, IsTail, exchanges_text, tail_text}
use Rattle.orb_engine.specs.Ends as ends
use Rattle.orb_engine.specs.Ends.{End, stop_of}
use Rattle.orb_engine.specs.Outputs.{output_of, written_exchanges, written_tail}
use Rattle.orb_engine.specs.Counts.{rules_of, rules_of_exchanges, rules_of_tail}
use Rattle.orb_engine.specs.Writing.{gathered_by}
use Rattle.orb_engine.specs.Reads.{open_cut, table_of, counts_of, IsTold, Common, AtRequestHead, AtResponseHead, Stands, Reads, IsStop, Stops, Breaks, Halts, HasRequest, HasResponse, HasHead, IsInHead, head_offset_of, HasReadHeads}
use Rattle.orb_engine.proofs.CutLemmas.{exchanges_text-append, exchanges_text-length}
use Rattle.orb_engine.proofs.FillLemmas.{empty-open, output-request_head, stands-as}

-- no output comes of these tails
pub output-quiet : (s : Settings) (exchanges : List Exchange) (t : Tail) (more : List ℕ) (ended : Bool)
    → written_tail s (table_of exchanges) (length exchanges) ended t ≡ []
    → output_of s (record { exchanges = exchanges; tail = t; more = more }) ended ≡ written_exchanges s map.empty 0 exchanges
unfolding output_of
output-quiet s exchanges t more ended none = ap (λ x. written_exchanges s map.empty 0 exchanges ++ x) none ∙ append-nil _

pub rules-quiet : (s : Settings) (exchanges : List Exchange) (t : Tail) (more : List ℕ) (ended : Bool)
    → rules_of_tail s (table_of exchanges) ended t ≡ []
    → rules_of s (record { exchanges = exchanges; tail = t; more = more }) ended ≡ rules_of_exchanges exchanges
unfolding rules_of
rules-quiet s exchanges t more ended none = ap (λ x. rules_of_exchanges exchanges ++ x) none ∙ append-nil _

-- an end that gives nothing
pub quiet-stops : (o : EngineOutcome) (e : Engine) (s : Settings) (m given : List ℕ) (ended : Bool) (exchanges : List Exchange) (t : Tail) (more : List ℕ)
    → IsRecording s m (record { exchanges = exchanges; tail = t; more = more })
    → written_tail s (table_of exchanges) (length exchanges) ended t ≡ [] → rules_of_tail s (table_of exchanges) ended t ≡ []
    → IsStop o (stop_of (record { exchanges = exchanges; tail = t; more = more }) ended)
    → given ++ gathered_by e.writer ≡ written_exchanges s map.empty 0 exchanges
    → e.progress.counts ≡ counts_of (rules_of_exchanges exchanges) → IsTold e.progress.told s exchanges given
    → Stops o e s m ended given
quiet-stops o e s m given ended exchanges t more cut_ quiet rules stop gave counts told = record {
  recording = record { exchanges = exchanges; tail = t; more = more };
  cut = cut_;
  stop = stop;
  gave = gave ∙ sym (output-quiet s exchanges t more ended quiet);
  counts = counts ∙ ap counts_of (sym (rules-quiet s exchanges t more ended rules));
  told = told;
}

request_head-at : (t : State) (e : Engine) (s : Settings) (exchanges : List Exchange) (tail : Tail) → t ≡ state.RequestHead
    → Stands t e s exchanges tail → AtRequestHead e s exchanges tail
request_head-at t e s exchanges tail is h = subst (λ (u : State). Stands u e s exchanges tail) is h

response_head-at : (t : State) (asked : Asked) (e : Engine) (s : Settings) (exchanges : List Exchange) (tail : Tail) → t ≡ state.ResponseHead asked
    → Stands t e s exchanges tail → AtResponseHead asked e s exchanges tail
response_head-at t asked e s exchanges tail is h = subst (λ (u : State). Stands u e s exchanges tail) is h

-- an engine in a request head
pub open-request : (e : Engine) (s : Settings) (m given : List ℕ) → Reads e s m given → e.state ≡ state.RequestHead
    → HasRequest IsOpenHead e s m given
open-request e s m given r is =
    let a = request_head-at e.state e s r.exchanges r.tail is r.stands in
    record {
      exchanges = r.exchanges;
      head = a.head;
      spells = r.cut.spells ∙ ap (λ t. exchanges_text r.exchanges (tail_text t [])) a.is ∙ ap (exchanges_text r.exchanges) (append-nil a.head);
      whole = r.cut.exchanges;
      text = subst (λ (t : Tail). IsTail (table_of r.exchanges) t) a.is r.cut.tail;
      buffer = a.text;
      media = a.media;
      writer = a.writer;
      gave = r.gave ∙ ap (λ t. output_of s (open_cut r.exchanges t) false) a.is ∙ output-request_head s r.exchanges a.head [] false;
      taken = r.taken;
      common = r.common;
    }

pub reads-request : (e : Engine) (s : Settings) (m given : List ℕ) → HasRequest IsOpenHead e s m given → e.state ≡ state.RequestHead
    → Reads e s m given
reads-request e s m given h is = record {
  exchanges = h.exchanges;
  tail = cut.InRequestHead h.head;
  cut = record {
    spells = h.spells ∙ ap (exchanges_text h.exchanges) (sym (append-nil h.head));
    exchanges = h.whole;
    tail = h.text;
    last = λ _. refl;
  };
  open_ = refl;
  gave = h.gave ∙ sym (output-request_head s h.exchanges h.head [] false);
  taken = h.taken;
  common = h.common;
  stands = stands-as e.state state.RequestHead e s h.exchanges _ is (record {
    head = h.head;
    is = refl;
    text = h.buffer;
    media = h.media;
    writer = h.writer;
  });
}

-- an engine in a response head
pub open-response : (asked : Asked) (e : Engine) (s : Settings) (m given : List ℕ) → Reads e s m given → e.state ≡ state.ResponseHead asked
    → HasResponse IsOpenHead asked e s m given
unfolding output_of
open-response asked e s m given r is =
    let a = response_head-at e.state asked e s r.exchanges r.tail is r.stands in
    let t = subst (λ (t : Tail). IsTail (table_of r.exchanges) t) a.is r.cut.tail in
    record {
      exchanges = r.exchanges;
      request = a.request;
      head = a.head;
      spells = r.cut.spells ∙ ap (λ t. exchanges_text r.exchanges (tail_text t [])) a.is ∙ ap (λ x. exchanges_text r.exchanges (a.request.bytes ++ x)) (append-nil a.head);
      whole = r.cut.exchanges;
      good = t.0;
      text = t.1;
      buffer = a.text;
      media = a.media;
      writer = a.writer;
      asks = a.asks;
      state = a.state;
      offset = a.offset;
      gave = r.gave ∙ ap (λ t. output_of s (open_cut r.exchanges t) false) a.is ∙ append-nil _;
      taken = r.taken;
      common = r.common;
    }

pub reads-response : (asked : Asked) (e : Engine) (s : Settings) (m given : List ℕ) → HasResponse IsOpenHead asked e s m given
    → e.state ≡ state.ResponseHead asked → Reads e s m given
unfolding output_of
reads-response asked e s m given h is = record {
  exchanges = h.exchanges;
  tail = cut.InResponseHead h.request h.head;
  cut = record {
    spells = h.spells ∙ ap (λ x. exchanges_text h.exchanges (h.request.bytes ++ x)) (sym (append-nil h.head));
    exchanges = h.whole;
    tail = (h.good, h.text);
    last = λ _. refl;
  };
  open_ = refl;
  gave = h.gave ∙ sym (append-nil _);
  taken = h.taken;
  common = h.common;
  stands = stands-as e.state (state.ResponseHead asked) e s h.exchanges _ is (record {
    request = h.request;
    head = h.head;
    is = refl;
    text = h.buffer;
    media = h.media;
    writer = h.writer;
    asks = h.asks;
    state = h.state;
    offset = h.offset;
  });
}

-- all but what is read next, the head and the count of bytes is as it was
pub record IsSameHead (e e' : Engine) : Type 0 where
  pub media : e'.media ≡ e.media
  pub offset : e'.progress.offset ≡ e.progress.offset
  pub counts : e'.progress.counts ≡ e.progress.counts
  pub told : e'.progress.told ≡ e.progress.told
  pub writer : e'.writer ≡ e.writer

pub common-same : (e e' : Engine) (s : Settings) (exchanges : List Exchange) (given : List ℕ) → IsSameHead e e' → Common e s exchanges given
    → Common e' s exchanges given
common-same e e' s exchanges given same c = record {
  settings = ap (λ w. w.settings) same.writer ∙ c.settings;
  offset = same.offset ∙ c.offset;
  counts = same.counts ∙ c.counts;
  told = rw same.told c.told;
}

-- so it is where bytes were taken
pub took : (e e' : Engine) (n : ℕ) → e'.media ≡ e.media → e'.writer ≡ e.writer → e'.progress ≡ advanced e.progress n → IsSameHead e e'
took e e' n media writer is = record {
  media = media;
  offset = ap (λ (p : Progress). p.offset) is;
  counts = ap (λ (p : Progress). p.counts) is;
  told = ap (λ (p : Progress). p.told) is;
  writer = writer;
}

box-same : (e e' : Engine) → IsSameHead e e' → gathered_by e'.writer ≡ gathered_by e.writer
box-same e e' same = ap gathered_by same.writer

-- more of a request head
pub request-longer : (IsText : List ℕ → Type 0) (e e' : Engine) (s : Settings) (m given prefix : List ℕ) → HasRequest IsOpenHead e s m given
    → IsSameHead e e' → e'.head ≡ e.head ++ prefix → IsText e'.head → e'.progress.taken ≡ e.progress.taken + length prefix
    → HasRequest IsText e' s (m ++ prefix) given
request-longer IsText e e' s m given prefix h same head text taken = record {
  exchanges = h.exchanges;
  head = h.head ++ prefix;
  spells = ap (λ x. x ++ prefix) h.spells ∙ exchanges_text-append h.exchanges h.head prefix;
  whole = h.whole;
  text = subst IsText (head ∙ ap (λ x. x ++ prefix) h.buffer) text;
  buffer = head ∙ ap (λ x. x ++ prefix) h.buffer;
  media = same.media ∙ h.media;
  writer = rw same.writer h.writer;
  gave = ap (λ x. given ++ x) (box-same e e' same) ∙ h.gave;
  taken = omega (arith, taken, h.taken, length-append m prefix);
  common = common-same e e' s h.exchanges given same h.common;
}

pub request-long : (e e' : Engine) (s : Settings) (m given prefix rest : List ℕ) → HasRequest IsOpenHead e s m given
    → IsSameHead e e' → e'.head ≡ e.head ++ prefix → IsLongHead e'.head
    → Stops (outcome.HeadLimit e.progress.offset) e' s (m ++ (prefix ++ rest)) false given
unfolding stop_of
request-long e e' s m given prefix rest h same head long =
    quiet-stops (outcome.HeadLimit e.progress.offset) e' s (m ++ (prefix ++ rest)) given false h.exchanges (cut.LongRequest (h.head ++ prefix)) rest
    (record {
      spells = ap (λ x. x ++ (prefix ++ rest)) h.spells ∙ exchanges_text-append h.exchanges h.head (prefix ++ rest)
          ∙ ap (exchanges_text h.exchanges) (sym (append_assoc h.head prefix rest));
      exchanges = h.whole;
      tail = subst (λ (x : List ℕ). IsLongHead x) (head ∙ ap (λ x. x ++ prefix) h.buffer) long;
      last = λ never. absurd (cc never);
    }) refl refl (ap (λ p. ends.HeadLimit p) (sym h.common.offset))
    (ap (λ x. given ++ x) (box-same e e' same) ∙ h.gave) (same.counts ∙ h.common.counts) (rw same.told h.common.told)

-- the request head is refused
pub request-bad : (e e' : Engine) (s : Settings) (m given : List ℕ) (kind : BadKind) → HasRequest IsHeadText e s m given
    → IsSameHead e e' → ReadsRequestHead e.head (Err kind) → Stops (outcome.Bad kind e.progress.offset) e' s m false given
unfolding stop_of
request-bad e e' s m given kind h same reads =
    quiet-stops (outcome.Bad kind e.progress.offset) e' s m given false h.exchanges (cut.BadRequest h.head kind) []
    (record {
      spells = h.spells ∙ ap (exchanges_text h.exchanges) (sym (append-nil h.head));
      exchanges = h.whole;
      tail = (h.text, subst (λ (x : List ℕ). ReadsRequestHead x (Err kind)) h.buffer reads);
      last = λ never. absurd (cc never);
    }) refl refl (ap (λ p. ends.Bad kind p) (sym h.common.offset))
    (ap (λ x. given ++ x) (box-same e e' same) ∙ h.gave) (same.counts ∙ h.common.counts) (rw same.told h.common.told)

-- the table of media states is full
pub request-full : (e e' : Engine) (s : Settings) (m given : List ℕ) (asks : RequestHead) → HasRequest IsHeadText e s m given
    → e'.writer ≡ e.writer → e'.progress.counts ≡ e.progress.counts → e'.progress.told ≡ e.progress.told
    → ReadsRequestHead e.head (Ok asks) → IsRefusedId e.media (id_of asks)
    → Stops (outcome.MediaFull e.progress.offset) e' s m false given
unfolding stop_of
request-full e e' s m given asks h writer counts told reads refused =
    let r : RequestText = record { bytes = h.head; asks = asks } in
    quiet-stops (outcome.MediaFull e.progress.offset) e' s m given false h.exchanges (cut.FullTable r) []
    (record {
      spells = h.spells ∙ ap (exchanges_text h.exchanges) (sym (append-nil h.head));
      exchanges = h.whole;
      tail = (record { text = h.text; reads = subst (λ (x : List ℕ). ReadsRequestHead x (Ok asks)) h.buffer reads }, rw (← h.media) refused);
      last = λ never. absurd (cc never);
    }) refl refl (ap (λ p. ends.MediaFull p) (sym h.common.offset))
    (ap (λ w. given ++ gathered_by w) writer ∙ h.gave) (counts ∙ h.common.counts) (rw told h.common.told)

-- the request is good, and its response comes
pub request-good : (e e' : Engine) (asked : Asked) (s : Settings) (m given : List ℕ) → HasRequest IsHeadText e s m given
    → e'.writer ≡ e.writer → e'.progress.counts ≡ e.progress.counts → e'.progress.told ≡ e.progress.told → e'.progress.offset ≡ e.progress.offset → e'.progress.taken ≡ e.progress.taken
    → e'.head ≡ [] → ReadsRequestHead e.head (Ok asked.asks) → (IsRefusedId e.media (id_of asked.asks) → ⊥)
    → asked.state ≡ state_before e.media asked.asks → e'.media ≡ admits e.media (id_of asked.asks) → asked.offset ≡ e.progress.taken
    → HasResponse IsOpenHead asked e' s m given
request-good e e' asked s m given h writer counts told offset taken empty reads room state media asked_offset = record {
  exchanges = h.exchanges;
  request = record { bytes = h.head; asks = asked.asks };
  head = [];
  spells = h.spells ∙ ap (exchanges_text h.exchanges) (sym (append-nil h.head));
  whole = h.whole;
  good = record {
    head = record { text = h.text; reads = subst (λ (x : List ℕ). ReadsRequestHead x (Ok asked.asks)) h.buffer reads };
    room = λ refused. room (rw h.media refused);
  };
  text = empty-open;
  buffer = empty;
  media = media ∙ ap (λ t. admits t (id_of asked.asks)) h.media;
  writer = rw writer h.writer;
  asks = refl;
  state = state ∙ ap (λ t. state_before t asked.asks) h.media;
  offset = asked_offset ∙ h.taken ∙ ap length h.spells ∙ exchanges_text-length h.exchanges h.head;
  gave = ap (λ w. given ++ gathered_by w) writer ∙ h.gave;
  taken = taken ∙ h.taken;
  common = record {
    settings = ap (λ w. w.settings) writer ∙ h.common.settings;
    offset = offset ∙ h.common.offset;
    counts = counts ∙ h.common.counts;
    told = rw told h.common.told;
  };
}

stop-closed : (o : EngineOutcome) (stop : End) → IsStop o stop → stop ≡ ends.Open → ⊥
stop-closed outcome.Done stop is open_ = cc
stop-closed (outcome.Bad kind at) stop is open_ = cc
stop-closed (outcome.Cut at) stop is open_ = cc
stop-closed (outcome.HeadLimit at) stop is open_ = cc
stop-closed (outcome.MediaFull at) stop is open_ = cc
stop-closed outcome.Endless stop never open_ = never
stop-closed outcome.ReadFault stop never open_ = never
stop-closed outcome.WriteFault stop never open_ = never

-- a refusal stands whatever follows it
pub stops-longer : (o : EngineOutcome) (e : Engine) (s : Settings) (m more given : List ℕ) → Stops o e s m false given
    → Stops o e s (m ++ more) false given
stops-longer o e s m more given stops =
    let closed = stop-closed o (stop_of stops.recording false) stops.stop in
    let (r, cut_, same) = refusal-stands s m more stops.recording stops.cut closed in
    let (others, are) = exchanges-longer s m more stops.recording r stops.cut cut_ in
    record {
      recording = r;
      cut = cut_;
      stop = subst (λ (x : End). IsStop o x) (sym (same.stop false)) stops.stop;
      gave = stops.gave ∙ sym (same.output false);
      counts = stops.counts ∙ ap counts_of (sym (same.rules false));
      told = record {
        prefix = stops.told.prefix;
        others = stops.told.others ++ others;
        are = are ∙ ap (λ t. t ++ others) stops.told.are ∙ append_assoc stops.told.prefix stops.told.others others;
        numbers = stops.told.numbers;
        whole = stops.told.whole;
      };
    }

breaks-longer : (e : Engine) (s : Settings) (m more given : List ℕ) → Breaks e s m false given → Breaks e s (m ++ more) false given
breaks-longer e s m more given broken = record {
  seen = broken.seen;
  unseen = broken.unseen ++ more;
  all = ap (λ t. t ++ more) broken.all ∙ append_assoc broken.seen broken.unseen more;
  all_seen = λ is. absurd (false≢true is);
  recording = broken.recording;
  cut = broken.cut;
  within = broken.within;
  told = broken.told;
}

halts-longer : (o : EngineOutcome) (e : Engine) (s : Settings) (m more given : List ℕ) → Halts o e s m false given
    → Halts o e s (m ++ more) false given
halts-longer outcome.WriteFault e s m more given h = breaks-longer e s m more given h
halts-longer outcome.Done e s m more given h = stops-longer outcome.Done e s m more given h
halts-longer (outcome.Bad kind at) e s m more given h = stops-longer (outcome.Bad kind at) e s m more given h
halts-longer (outcome.Cut at) e s m more given h = stops-longer (outcome.Cut at) e s m more given h
halts-longer (outcome.HeadLimit at) e s m more given h = stops-longer (outcome.HeadLimit at) e s m more given h
halts-longer (outcome.MediaFull at) e s m more given h = stops-longer (outcome.MediaFull at) e s m more given h
halts-longer outcome.Endless e s m more given h = stops-longer outcome.Endless e s m more given h
halts-longer outcome.ReadFault e s m more given h = stops-longer outcome.ReadFault e s m more given h

-- the same, after the first bytes of a piece
pub halts-piece : (o : EngineOutcome) (e : Engine) (s : Settings) (m piece given : List ℕ) (used : ℕ)
    → Halts o e s (m ++ take used piece) false given → Halts o e s (m ++ piece) false given
halts-piece o e s m piece given used h =
    subst (λ (x : List ℕ). Halts o e s x false given)
    (append_assoc m (take used piece) (drop used piece) ∙ ap (λ t. m ++ t) (take-append-drop used piece))
    (halts-longer o e s (m ++ take used piece) (drop used piece) given h)

-- more of a response head
pub response-longer : (IsText : List ℕ → Type 0) (asked : Asked) (e e' : Engine) (s : Settings) (m given prefix : List ℕ)
    → HasResponse IsOpenHead asked e s m given → IsSameHead e e' → e'.head ≡ e.head ++ prefix → IsText e'.head
    → e'.progress.taken ≡ e.progress.taken + length prefix → HasResponse IsText asked e' s (m ++ prefix) given
response-longer IsText asked e e' s m given prefix h same head text taken = record {
  exchanges = h.exchanges;
  request = h.request;
  head = h.head ++ prefix;
  spells = ap (λ x. x ++ prefix) h.spells ∙ exchanges_text-append h.exchanges (h.request.bytes ++ h.head) prefix
      ∙ ap (exchanges_text h.exchanges) (append_assoc h.request.bytes h.head prefix);
  whole = h.whole;
  good = h.good;
  text = subst IsText (head ∙ ap (λ x. x ++ prefix) h.buffer) text;
  buffer = head ∙ ap (λ x. x ++ prefix) h.buffer;
  media = same.media ∙ h.media;
  writer = rw same.writer h.writer;
  asks = h.asks;
  state = h.state;
  offset = h.offset;
  gave = ap (λ x. given ++ x) (box-same e e' same) ∙ h.gave;
  taken = omega (arith, taken, h.taken, length-append m prefix);
  common = common-same e e' s h.exchanges given same h.common;
}

pub response-long : (asked : Asked) (e e' : Engine) (s : Settings) (m given prefix rest : List ℕ) → HasResponse IsOpenHead asked e s m given
    → IsSameHead e e' → e'.head ≡ e.head ++ prefix → IsLongHead e'.head
    → Stops (outcome.HeadLimit asked.offset) e' s (m ++ (prefix ++ rest)) false given
unfolding stop_of
response-long asked e e' s m given prefix rest h same head long =
    quiet-stops (outcome.HeadLimit asked.offset) e' s (m ++ (prefix ++ rest)) given false h.exchanges (cut.LongResponse h.request (h.head ++ prefix)) rest
    (record {
      spells = ap (λ x. x ++ (prefix ++ rest)) h.spells ∙ exchanges_text-append h.exchanges (h.request.bytes ++ h.head) (prefix ++ rest)
          ∙ ap (exchanges_text h.exchanges) (append_assoc h.request.bytes h.head (prefix ++ rest)
          ∙ ap (λ t. h.request.bytes ++ t) (sym (append_assoc h.head prefix rest)));
      exchanges = h.whole;
      tail = (h.good, subst (λ (x : List ℕ). IsLongHead x) (head ∙ ap (λ x. x ++ prefix) h.buffer) long);
      last = λ never. absurd (cc never);
    }) refl refl (ap (λ p. ends.HeadLimit p) (sym h.offset))
    (ap (λ x. given ++ x) (box-same e e' same) ∙ h.gave) (same.counts ∙ h.common.counts) (rw same.told h.common.told)

-- the head that comes, by what is read next
pub open-head : (t : State) (e : Engine) (s : Settings) (m given : List ℕ) → e.state ≡ t → IsInHead t → Reads e s m given
    → HasHead IsOpenHead t e s m given
open-head state.Idle e s m given is at r = absurd at
open-head state.RequestHead e s m given is at r = open-request e s m given r is
open-head (state.ResponseHead asked) e s m given is at r = open-response asked e s m given r is
open-head (state.Body incoming) e s m given is at r = absurd at

pub reads-head : (t : State) (e : Engine) (s : Settings) (m given : List ℕ) → e.state ≡ t → HasHead IsOpenHead t e s m given
    → Reads e s m given
reads-head state.Idle e s m given is h = absurd h
reads-head state.RequestHead e s m given is h = reads-request e s m given h is
reads-head (state.ResponseHead asked) e s m given is h = reads-response asked e s m given h is
reads-head (state.Body incoming) e s m given is h = absurd h

pub head-longer : (t : State) (IsText : List ℕ → Type 0) (e e' : Engine) (s : Settings) (m given prefix : List ℕ)
    → HasHead IsOpenHead t e s m given → IsSameHead e e' → e'.head ≡ e.head ++ prefix → IsText e'.head
    → e'.progress.taken ≡ e.progress.taken + length prefix → HasHead IsText t e' s (m ++ prefix) given
head-longer state.Idle IsText e e' s m given prefix h same head text taken = absurd h
head-longer state.RequestHead IsText e e' s m given prefix h same head text taken =
    request-longer IsText e e' s m given prefix h same head text taken
head-longer (state.ResponseHead asked) IsText e e' s m given prefix h same head text taken =
    response-longer IsText asked e e' s m given prefix h same head text taken
head-longer (state.Body incoming) IsText e e' s m given prefix h same head text taken = absurd h

pub head-long : (t : State) (e e' : Engine) (s : Settings) (m given prefix rest : List ℕ) → HasHead IsOpenHead t e s m given
    → IsSameHead e e' → e'.head ≡ e.head ++ prefix → IsLongHead e'.head
    → Stops (outcome.HeadLimit (head_offset_of t e')) e' s (m ++ (prefix ++ rest)) false given
head-long state.Idle e e' s m given prefix rest h same head long = absurd h
head-long state.RequestHead e e' s m given prefix rest h same head long =
    subst (λ (p : ℕ). Stops (outcome.HeadLimit p) e' s (m ++ (prefix ++ rest)) false given) (sym same.offset)
    (request-long e e' s m given prefix rest h same head long)
head-long (state.ResponseHead asked) e e' s m given prefix rest h same head long =
    response-long asked e e' s m given prefix rest h same head long
head-long (state.Body incoming) e e' s m given prefix rest h same head long = absurd h

-- the response head is refused
pub response-bad : (asked : Asked) (e e' : Engine) (s : Settings) (m given : List ℕ) (kind : BadKind) → HasResponse IsHeadText asked e s m given
    → IsSameHead e e' → ReadsResponseHead e.head asked.asks.is_head (Err kind) → Stops (outcome.Bad kind asked.offset) e' s m false given
unfolding stop_of
response-bad asked e e' s m given kind h same reads =
    quiet-stops (outcome.Bad kind asked.offset) e' s m given false h.exchanges (cut.BadResponse h.request h.head kind) []
    (record {
      spells = h.spells ∙ ap (λ x. exchanges_text h.exchanges (h.request.bytes ++ x)) (sym (append-nil h.head));
      exchanges = h.whole;
      tail = (h.good, h.text, rw (← h.buffer, ← h.asks) reads);
      last = λ never. absurd (cc never);
    }) refl refl (ap (λ p. ends.Bad kind p) (sym h.offset))
    (ap (λ x. given ++ x) (box-same e e' same) ∙ h.gave) (same.counts ∙ h.common.counts) (rw same.told h.common.told)

-- the facts are those of the response as the recording has it
facts-judged : (asked : Asked) (d : Facts) (f : BodyFrame) (c s : Settings) (head : List ℕ) (state : MediaState) (asks : RequestHead)
    → asked.state ≡ state → asked.asks ≡ asks → c ≡ s → (well : ReadsWell (context_of c asked.asks asked.state) head d f)
    → AreFactsOf d (case_of s.policy state asks.opaque (status_code well.tree) (pairs_of well.tree.fields) s.limit well.essence)
facts-judged asked d f c s head state asks state_is asks_is same well =
    let P : MediaState → Bool → Settings → Type 0 =
    λ m o b. AreFactsOf d (case_of b.policy m o (status_code well.tree) (pairs_of well.tree.fields) b.limit well.essence) in
    subst (λ (b : Settings). P state asks.opaque b) same
    (subst (λ (o : Bool). P state o c) (ap (λ (q : RequestHead). q.opaque) asks_is)
    (subst (λ (m : MediaState). P m asked.asks.opaque c) state_is well.facts))

-- the response head is good
pub response-good : (asked : Asked) (read : Facts × BodyFrame) (e e' : Engine) (s : Settings) (m given : List ℕ)
    → HasResponse IsHeadText asked e s m given → IsSameHead e e' → e'.head ≡ e.head → e'.progress.taken ≡ e.progress.taken
    → ReadsWell (context_of e.writer.settings asked.asks asked.state) e.head read.0 read.1 → HasReadHeads asked read e' s m given
response-good asked read e e' s m given h same head taken well =
    let same_settings = h.common.settings in
    record {
      whole = record {
        exchanges = h.exchanges;
        request = h.request;
        head = h.head;
        spells = h.spells;
        whole = h.whole;
        good = h.good;
        text = h.text;
        buffer = head ∙ h.buffer;
        media = same.media ∙ h.media;
        writer = rw same.writer h.writer;
        asks = h.asks;
        state = h.state;
        offset = h.offset;
        gave = ap (λ x. given ++ x) (box-same e e' same) ∙ h.gave;
        taken = taken ∙ h.taken;
        common = common-same e e' s h.exchanges given same h.common;
      };
      response = record {
        bytes = h.head;
        status = status_code well.tree;
        fields = pairs_of well.tree.fields;
        essence = well.essence;
        frame = read.1;
      };
      bytes = refl;
      good = record {
        text = h.text;
        tree = well.tree;
        reads = subst (λ (x : List ℕ). IsResponse x well.tree) h.buffer well.is;
        status = refl;
        fields = refl;
        frame = rw (← h.asks) well.framed;
        essence = well.states;
      };
      frame_is = refl;
      facts = record { of_head = facts-judged asked read.0 read.1 e.writer.settings s e.head _ h.request.asks h.state h.asks same_settings well; limit = refl };
    }

-- a step that took all of a piece
pub taken-all : (e : Engine) (s : Settings) (m piece given : List ℕ) → Reads e s (m ++ piece) given
    → (length piece ≤ length piece) × Reads e s (m ++ take (length piece) piece) given
taken-all e s m piece given reads =
    (omega arith, subst (λ (x : List ℕ). Reads e s (m ++ x) given) (sym (take-length piece)) reads)
