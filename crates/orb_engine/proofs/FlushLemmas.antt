-- What goes out after a piece.
use Rattle.std.proofs.Common.{◌≡◌, ℕ, ◌^◌, ◌≤◌, Bool, true, false, List, [], ◌++◌, refl, sym, ap, subst, ◌∙◌}
use Rattle.std.specs.FinMap as map
use Rattle.std.proofs.lemmas.List.{append-nil}
use Rattle.orb_io.specs.Told.{IsPrefix}
use Rattle.orb_io.proofs.ToldLemmas.{IsPrefix-trans, IsPrefix-append}
use Rattle.orb_engine.specs.declared.settings.Settings.{Settings}
use Rattle.orb_engine.specs.declared.worker.Worker.{Worker}
use Rattle.orb_engine.specs.declared.writer.Writer.{Writer}
use Rattle.orb_engine.specs.declared.progress.Counts.{Counts}
use Rattle.orb_engine.specs.declared.progress.Progress.{Progress}
use Rattle.orb_engine.specs.Progress.{committed}
use Rattle.orb_engine.specs.declared.engine.Engine.{Engine}
use Rattle.orb_engine.specs.declared.engine.states.State.{State}
use Rattle.orb_engine.specs.declared.engine.states.State.TheVariants as state
use Rattle.orb_engine.specs.declared.outcome.EngineOutcome.{EngineOutcome}
use Rattle.orb_engine.specs.declared.outcome.EngineOutcome.TheVariants as outcome
use Rattle.orb_io.specs.Outboxes.{OutboxState, empty_outbox}
use Rattle.orb_engine.specs.Workers.{IsWorkerFor, Works}
use Rattle.orb_engine.specs.Judged.{response_of}
use Rattle.orb_engine.specs.Recording as cut
use Rattle.orb_engine.specs.Recording.{Exchange, Tail, Recording, is_open}
use Rattle.orb_engine.specs.Outputs.{output_of, written_exchanges}
use Rattle.orb_engine.specs.Counts.{rules_of, rules_of_exchanges, rules_of_tail}
use Rattle.orb_engine.specs.Writing.{IsSameBut, IsWriterFor, box_of, gathered_by}
use Rattle.orb_engine.specs.Reads.{open_cut, table_of, counts_of, IsTold, Stands, IsStop, Reads, Stops, Halts, Breaks, HaltCause}
use Rattle.orb_engine.specs.Ends.{Open}
use Rattle.orb_engine.specs.Runs.{HasCounted, HasCountedPrefix, HasRead, Ends, Fails, EndsAs}
use Rattle.orb_engine.proofs.AnswerLaws.{opens-stop}

-- the counts of whole exchanges, by verdict
counted : (e : Engine) (s : Settings) (r : Recording) (ended : Bool) → e.progress.counts ≡ counts_of (rules_of s r ended) → HasCounted e s r ended
counted e s r ended is = record { allowed = ap (λ (c : Counts). c.allowed) is; blocked = ap (λ (c : Counts). c.blocked) is }

counted-prefix : (e : Engine) (s : Settings) (exchanges : List Exchange) (wrote more : List ℕ) → IsTold e.progress.counts s exchanges wrote
    → HasCountedPrefix e s exchanges (wrote ++ more)
counted-prefix e s exchanges wrote more told = record {
  prefix = told.prefix;
  others = told.others;
  are = told.are;
  allowed = ap (λ (c : Counts). c.allowed) told.numbers;
  blocked = ap (λ (c : Counts). c.blocked) told.numbers;
  whole = IsPrefix-trans _ wrote _ told.whole (IsPrefix-append wrote more);
}

-- a stop, all of whose output went out
pub stops-flushed : (o : EngineOutcome) (e e' : Engine) (s : Settings) (m given : List ℕ) (ended : Bool) (all : List ℕ)
    → Stops o e s m ended given → e'.progress.counts ≡ e.progress.counts → all ≡ given ++ gathered_by e.writer
    → Ends e' s m ended (IsStop o) all
stops-flushed o e e' s m given ended all stops counts gave = record {
  recording = stops.recording;
  cut = stops.cut;
  stop = stops.stop;
  gave = gave ∙ stops.gave;
  counted = counted e' s stops.recording ended (counts ∙ stops.counts);
}

-- a stop, whose output didn't go out whole
pub stops-broken : (o : EngineOutcome) (e e' : Engine) (s : Settings) (m given : List ℕ) (ended : Bool) (more : List ℕ)
    → Stops o e s m ended given → e'.progress.counts ≡ e.progress.told → IsPrefix (given ++ more) (given ++ gathered_by e.writer)
    → Fails e' s m ended (given ++ more)
stops-broken o e e' s m given ended more stops counts within = record {
  seen = m;
  unseen = [];
  all = sym (append-nil m);
  all_seen = λ _. refl;
  recording = stops.recording;
  cut = stops.cut;
  within = subst (λ (t : List ℕ). IsPrefix (given ++ more) t) stops.gave within;
  counted = counted-prefix e' s stops.recording.exchanges given more (rw counts stops.told);
}

-- a fault before, after which nothing is pushed
pub breaks-fail : (e e' : Engine) (s : Settings) (m : List ℕ) (ended : Bool) (given : List ℕ) → Breaks e s m ended given
    → e'.progress.counts ≡ e.progress.told → Fails e' s m ended given
breaks-fail e e' s m ended given broken counts = record {
  seen = broken.seen;
  unseen = broken.unseen;
  all = broken.all;
  all_seen = broken.all_seen;
  recording = broken.recording;
  cut = broken.cut;
  within = broken.within;
  counted = subst (λ (t : List ℕ). HasCountedPrefix e' s broken.recording.exchanges t) (append-nil given)
      (counted-prefix e' s broken.recording.exchanges given [] (rw counts broken.told));
}

-- the answer after a flush
pub as-ends : (o : EngineOutcome) (e : Engine) (s : Settings) (m : List ℕ) (ended : Bool) (given : List ℕ)
    → (o ≡ outcome.WriteFault → ⊥) → Ends e s m ended (IsStop o) given → EndsAs o e s m ended given
as-ends outcome.WriteFault e s m ended given never h = absurd (never refl)
as-ends outcome.Done e s m ended given never h = h
as-ends (outcome.Bad kind at) e s m ended given never h = h
as-ends (outcome.Cut at) e s m ended given never h = h
as-ends (outcome.HeadLimit at) e s m ended given never h = h
as-ends (outcome.MediaFull at) e s m ended given never h = h
as-ends outcome.Endless e s m ended given never h = h
as-ends outcome.ReadFault e s m ended given never h = h

-- an open tail adds no exchange
open-rules : (s : Settings) (exchanges : List Exchange) (t : Tail) → is_open t ≡ true → rules_of s (open_cut exchanges t) false ≡ rules_of_exchanges exchanges
unfolding rules_of
open-rules s exchanges t is = ap (λ x. rules_of_exchanges exchanges ++ x) (none t) ∙ append-nil _
  where
    none : (t : Tail) → rules_of_tail s (table_of exchanges) false t ≡ []
    none (cut.InRequestHead head) = refl
    none (cut.InResponseHead r head) = refl
    none (cut.InBody h sent body) = refl
    none (cut.LongRequest head) = refl
    none (cut.BadRequest head kind) = refl
    none (cut.FullTable r) = refl
    none (cut.LongResponse r head) = refl
    none (cut.BadResponse r head kind) = refl
    none (cut.BadBody h sent body b) = refl

exchanges-prefix : (s : Settings) (exchanges : List Exchange) (t : Tail) → IsPrefix (written_exchanges s map.empty 0 exchanges) (output_of s (open_cut exchanges t) false)
unfolding output_of
exchanges-prefix s exchanges t = IsPrefix-append _ _

works-same : (w w' : Writer) (s : Settings) → IsSameBut w w' → box_of w' ≡ empty_outbox → IsWriterFor w s → IsWriterFor w' s
works-same w w' s same empty for = record {
  worker = subst (λ (v : Worker). IsWorkerFor v s) (sym same.worker) for.worker;
  no_faults = ap (λ (b : OutboxState). b.faults) empty;
}

-- a flush changes nothing of where the engine stands
pub stands-flushed : (t : State) (e e' : Engine) (s : Settings) (exchanges : List Exchange) (tail : Tail) → Stands t e s exchanges tail
    → e'.head ≡ e.head → e'.media ≡ e.media → IsSameBut e.writer e'.writer → box_of e'.writer ≡ empty_outbox
    → Stands t e' s exchanges tail
stands-flushed state.Idle e e' s exchanges tail h head media same empty = absurd h
stands-flushed state.RequestHead e e' s exchanges tail h head media same empty = record {
  head = h.head;
  is = h.is;
  text = head ∙ h.text;
  media = media ∙ h.media;
  writer = works-same e.writer e'.writer s same empty h.writer;
}
stands-flushed (state.ResponseHead asked) e e' s exchanges tail h head media same empty = record {
  request = h.request;
  head = h.head;
  is = h.is;
  text = head ∙ h.text;
  media = media ∙ h.media;
  writer = works-same e.writer e'.writer s same empty h.writer;
  asks = h.asks;
  state = h.state;
  offset = h.offset;
}
stands-flushed (state.Body incoming) e e' s exchanges tail h head media same empty = record {
  heads = h.heads;
  sent = h.sent;
  body = h.body;
  is = h.is;
  receives = record {
    unframer = h.receives.unframer;
    writer = record {
      works = subst (λ (v : Worker). Works v s (response_of s (table_of exchanges) h.heads) h.body) (sym same.worker) h.receives.writer.works;
      no_faults = ap (λ (b : OutboxState). b.faults) empty;
      head = same.head ∙ h.receives.writer.head;
      body = same.body ∙ h.receives.writer.body;
    };
    media = media ∙ h.receives.media;
    id = h.receives.id;
    to_end = h.receives.to_end;
  };
}

-- an open recording, all of whose output went out
pub reads-flushed : (e e' : Engine) (s : Settings) (m given all : List ℕ) → Reads e s m given → e.progress.taken ≤ 2 ^ 62
    → e'.head ≡ e.head → e'.media ≡ e.media → IsSameBut e.writer e'.writer → e'.state ≡ e.state → e'.progress ≡ committed e.progress
    → all ≡ given ++ gathered_by e.writer → box_of e'.writer ≡ empty_outbox
    → Ends e' s m false (λ stop. stop ≡ Open) all × HasRead e' s m all
reads-flushed e e' s m given all r few head media same state_ progress gave empty =
    let recording = open_cut r.exchanges r.tail in
    let out : all ≡ output_of s recording false = gave ∙ r.gave in
    let counts = ap (λ (p : Progress). p.counts) progress in
    let taken = ap (λ (p : Progress). p.taken) progress in (
      record {
        recording = recording;
        cut = r.cut;
        stop = (opens-stop recording).1 r.open_;
        gave = out;
        counted = counted e' s recording false (counts ∙ r.common.counts ∙ ap counts_of (sym (open-rules s r.exchanges r.tail r.open_)));
      },
      record {
        reads = record {
          exchanges = r.exchanges;
          tail = r.tail;
          cut = r.cut;
          open_ = r.open_;
          gave = ap (λ (x : OutboxState). all ++ x.bytes) empty ∙ append-nil _ ∙ out;
          taken = taken ∙ r.taken;
          common = record {
            settings = same.settings ∙ r.common.settings;
            offset = ap (λ (p : Progress). p.offset) progress ∙ r.common.offset;
            counts = counts ∙ r.common.counts;
            told = record {
              prefix = r.exchanges;
              others = [];
              are = sym (append-nil r.exchanges);
              numbers = ap (λ (p : Progress). p.told) progress ∙ r.common.counts;
              whole = subst (λ (t : List ℕ). IsPrefix (written_exchanges s map.empty 0 r.exchanges) t) (sym out) (exchanges-prefix s r.exchanges r.tail);
            };
          };
          stands = subst (λ (t : State). Stands t e' s r.exchanges r.tail) (sym state_)
              (stands-flushed e.state e e' s r.exchanges r.tail r.stands head media same empty);
        };
        flushed = empty;
        few = rw taken few;
      },
    )

pub reads-broken : (e e' : Engine) (s : Settings) (m given more : List ℕ) → Reads e s m given → e'.progress.counts ≡ e.progress.told
    → IsPrefix (given ++ more) (given ++ gathered_by e.writer) → Fails e' s m false (given ++ more)
reads-broken e e' s m given more r counts within = record {
  seen = m;
  unseen = [];
  all = sym (append-nil m);
  all_seen = λ _. refl;
  recording = open_cut r.exchanges r.tail;
  cut = r.cut;
  within = subst (λ (t : List ℕ). IsPrefix (given ++ more) t) r.gave within;
  counted = counted-prefix e' s r.exchanges given more (rw counts r.common.told);
}

-- an outcome that is no write fault left the count as it was
pub stop-unraised : (o : EngineOutcome) (a b : ℕ) → (o ≡ outcome.WriteFault → ⊥) → HaltCause o a b → b ≡ a
stop-unraised outcome.WriteFault a b other cause = absurd (other refl)
stop-unraised o a b other cause = cause

-- where the recording stops, and the sink has not failed, the state counts for nothing
pub halts-stops : (o : EngineOutcome) (e e' : Engine) (s : Settings) (m : List ℕ) (ended : Bool) (given : List ℕ)
    → (o ≡ outcome.WriteFault → ⊥) → e'.writer ≡ e.writer → e'.progress ≡ e.progress → Halts o e s m ended given
    → Stops o e' s m ended given
halts-stops outcome.WriteFault e e' s m ended given other writer progress h = absurd (other refl)
halts-stops o e e' s m ended given other writer progress h = record {
  recording = h.recording;
  cut = h.cut;
  stop = h.stop;
  gave = rw writer h.gave;
  counts = rw progress h.counts;
  told = rw progress h.told;
}
