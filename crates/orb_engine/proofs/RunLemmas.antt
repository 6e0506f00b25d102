-- A run, pull by pull.
use Rattle.std.proofs.Common.{◌≡◌, ℕ, ◌+◌, ◌^◌, ◌<◌, ◌≤◌, Bool, true, false, List, [], ◌∷◌, ◌++◌, length, length-append, take, Option, Some, None, Result, Ok, Err, refl, sym, ap, subst, ◌∙◌, arith}
use Rattle.std.specs.Prelude.{◌==◌}
use Rattle.std.proofs.lemmas.List.{append-nil, length-take-le}
use Rattle.std.proofs.lemmas.Bool.Decides.{nat_tests}
use Rattle.std.proofs.Math.Seq.{take-append_seam}
use Rattle.std.specs.FinMap as map
use Rattle.orb_io.specs.declared.outside.Failed.{Failed}
use Rattle.orb_io.specs.Told.{Loses, IsAtEnd, HasCause, Pulls}
use Rattle.orb_io.proofs.ToldLemmas.{Loses-twice}
use Rattle.media_state.specs.Table.{States}
use Rattle.orb_engine.specs.declared.settings.Settings.{Settings}
use Rattle.orb_engine.specs.declared.engine.Engine.{Engine}
use Rattle.orb_engine.specs.declared.outcome.EngineOutcome.{EngineOutcome}
use Rattle.orb_engine.specs.declared.outcome.EngineOutcome.TheVariants as outcome
use Rattle.orb_engine.specs.Recording as cut
use Rattle.orb_engine.specs.Recording.{Tail, Recording}
use Rattle.orb_engine.specs.Ends.{Open}
use Rattle.orb_engine.specs.Counts.{rules_of, rules_of_exchanges, rules_of_tail, count_allowed, count_blocked}
use Rattle.orb_io.specs.Outboxes.{OutboxState}
use Rattle.orb_io.specs.declared.pulling.TheConstants.{MOST_OF_A_RUN}
use Rattle.orb_engine.specs.Reads.{HaltCause, open_cut}
use Rattle.orb_engine.specs.Runs.{HasRead, Ends, EndsAs, FeedAnswers, FeedCauses, RunAnswers, RunCauses, Ran}
use Rattle.orb_engine.specs.Turns.{piece_of, is_ended, TurnAnswers, TurnCauses, Running}
use Rattle.orb_engine.proofs.AnswerLaws.{opens-stop}

-- ---- what was read is open

tail-no_rules : (s : Settings) (table : States) (t : Tail) → rules_of_tail s table false t ≡ []
tail-no_rules s table (cut.InBody h sent body) = refl
tail-no_rules s table _ = refl

rules-exchanges : (s : Settings) (r : Recording) → rules_of s r false ≡ rules_of_exchanges r.exchanges
unfolding rules_of
rules-exchanges s r =
    ap (λ l. rules_of_exchanges r.exchanges ++ l) (tail-no_rules s (cut.table_after_all map.empty r.exchanges) r.tail)
    ∙ append-nil (rules_of_exchanges r.exchanges)

pub read-ends : (e : Engine) (s : Settings) (m given : List ℕ) → HasRead e s m given → Ends e s m false (λ stop. stop ≡ Open) given
read-ends e s m given r =
    let cutting = open_cut r.reads.exchanges r.reads.tail in
    let counts = r.reads.common.counts ∙ ap (λ rules. record { allowed = count_allowed rules; blocked = count_blocked rules }) (sym (rules-exchanges s cutting)) in
    record {
      recording = cutting;
      cut = r.reads.cut;
      stop = (opens-stop cutting).1 r.reads.open_;
      gave = sym (append-nil given) ∙ ap (λ (t : OutboxState). given ++ t.bytes) (sym r.flushed) ∙ r.reads.gave;
      counted = record {
        allowed = ap (λ c. c.allowed) counts;
        blocked = ap (λ c. c.blocked) counts;
      };
    }

feed-answers : (r : Option EngineOutcome) (e : Engine) (s : Settings) (m given : List ℕ) → FeedAnswers r e s m given
    → TurnAnswers r e s m false given
feed-answers None e s m given x = x.1
feed-answers (Some outcome.WriteFault) e s m given x = x
feed-answers (Some outcome.Endless) e s m given x = absurd x.stop
feed-answers (Some outcome.ReadFault) e s m given x = absurd x.stop
feed-answers (Some r) e s m given x = x

end-answers : (r : EngineOutcome) (e : Engine) (s : Settings) (m given : List ℕ) → EndsAs r e s m true given
    → RunAnswers r e s m true given
end-answers outcome.WriteFault e s m given x = x
end-answers outcome.Endless e s m given x = absurd x.stop
end-answers outcome.ReadFault e s m given x = absurd x.stop
end-answers r e s m given x = x

-- ---- a turn

abbrev count_of : Result ℕ Failed → ℕ
count_of (Ok n) = n
count_of (Err failed) = 0

pub same_count : (i j : ℕ) (p : Result ℕ Failed) → p ≡ Ok i → p ≡ Ok j → i ≡ j
same_count i j p first second = ap count_of (sym first ∙ second)

take_none : (l : List ℕ) → take 0 l ≡ []
take_none [] = refl
take_none (x ∷ l) = refl

not_zero : (n : ℕ) → (n ≡ 0 → ⊥) → (n == 0) ≡ false
not_zero n h = grind (arith, nat_tests)

-- the pull found the end
pub turn-end : (p : Result ℕ Failed) (r : EngineOutcome) (e : Engine) (s : Settings) (m given room : List ℕ) → p ≡ Ok 0
    → EndsAs r e s m true given → RunAnswers r e s (m ++ piece_of p room) (is_ended p) given
turn-end p r e s m given room is x =
    subst (λ (q : Result ℕ Failed). RunAnswers r e s (m ++ piece_of q room) (is_ended q) given) (sym is)
    (subst (λ (t : List ℕ). RunAnswers r e s t true given) (sym (ap (λ t. m ++ t) (take_none room) ∙ append-nil m))
    (end-answers r e s m given x))

-- the pull gave some bytes
pub turn-feed : (p : Result ℕ Failed) (count : ℕ) (r : Option EngineOutcome) (e : Engine) (s : Settings) (m given room : List ℕ)
    → p ≡ Ok count → (count ≡ 0 → ⊥) → FeedAnswers r e s (m ++ take count room) given
    → TurnAnswers r e s (m ++ piece_of p room) (is_ended p) given
turn-feed p count r e s m given room is some x =
    subst (λ (q : Result ℕ Failed). TurnAnswers r e s (m ++ piece_of q room) (is_ended q) given) (sym is)
    (subst (λ (t : Bool). TurnAnswers r e s (m ++ take count room) t given) (sym (not_zero count some))
    (feed-answers r e s (m ++ take count room) given x))

-- the pull gave some bytes past the last that a run takes
pub turn-endless : (p : Result ℕ Failed) (count : ℕ) (e : Engine) (s : Settings) (m given room : List ℕ) → p ≡ Ok count
    → (count ≡ 0 → ⊥) → count ≤ length room → e.progress.taken ≡ 2 ^ 62 → HasRead e s m given
    → RunAnswers outcome.Endless e s (m ++ piece_of p room) (is_ended p) given
turn-endless p count e s m given room is some within full r =
    let size : MOST_OF_A_RUN ≡ length m = sym full ∙ r.reads.taken in
    let first : take MOST_OF_A_RUN (m ++ take count room) ≡ m = ap (λ j. take j (m ++ take count room)) size ∙ take-append_seam m (take count room) in
    subst (λ (q : Result ℕ Failed). RunAnswers outcome.Endless e s (m ++ piece_of q room) (is_ended q) given) (sym is) (
      omega (arith, size, length-append m (take count room), length-take-le count room within, some),
      not_zero count some,
      subst (λ (t : List ℕ). Ends e s t false (λ stop. stop ≡ Open) given) (sym first) (read-ends e s m given r),
    )

-- the pull failed
pub turn-fault : (p : Result ℕ Failed) (failed : Failed) (e : Engine) (s : Settings) (m given room : List ℕ) → p ≡ Err failed
    → HasRead e s m given → RunAnswers outcome.ReadFault e s (m ++ piece_of p room) (is_ended p) given
turn-fault p failed e s m given room is r =
    subst (λ (q : Result ℕ Failed). RunAnswers outcome.ReadFault e s (m ++ piece_of q room) (is_ended q) given) (sym is)
    (refl, subst (λ (t : List ℕ). Ends e s t false (λ stop. stop ≡ Open) given) (sym (append-nil m)) (read-ends e s m given r))

-- ---- causes

pub ok-cause : (p : Result ℕ Failed) (n before after : ℕ) → p ≡ Ok n → HasCause before after p → after ≡ before
ok-cause p n before after is cause = subst (λ (q : Result ℕ Failed). HasCause before after q) is cause

end-cause : (r : EngineOutcome) (e : Engine) (s : Settings) (m given : List ℕ) (i j x y : ℕ) → EndsAs r e s m true given → j ≡ i
    → HaltCause r x y → RunCauses r i j x y
end-cause outcome.WriteFault e s m given i j x y h source sink = (source, sink)
end-cause outcome.ReadFault e s m given i j x y h source sink = absurd h.stop
end-cause r e s m given i j x y h source sink = (source, sink)

pub turn-end-cause : (p : Result ℕ Failed) (r : EngineOutcome) (e : Engine) (s : Settings) (m given : List ℕ) (i j x y : ℕ)
    → p ≡ Ok 0 → EndsAs r e s m true given → HaltCause r x y → HasCause i j p → RunCauses r i j x y
turn-end-cause p r e s m given i j x y is h sink source = end-cause r e s m given i j x y h (ok-cause p 0 i j is source) sink

feed-cause : (r : Option EngineOutcome) (e : Engine) (s : Settings) (m given : List ℕ) (i j x y : ℕ) → FeedAnswers r e s m given
    → j ≡ i → FeedCauses r x y → TurnCauses r i j x y
feed-cause None e s m given i j x y h source sink = (source, sink)
feed-cause (Some outcome.WriteFault) e s m given i j x y h source sink = (source, sink)
feed-cause (Some outcome.ReadFault) e s m given i j x y h source sink = absurd h.stop
feed-cause (Some r) e s m given i j x y h source sink = (source, sink)

pub turn-feed-cause : (p : Result ℕ Failed) (count : ℕ) (r : Option EngineOutcome) (e : Engine) (s : Settings) (m given : List ℕ) (i j x y : ℕ)
    → p ≡ Ok count → FeedAnswers r e s m given → FeedCauses r x y → HasCause i j p → TurnCauses r i j x y
turn-feed-cause p count r e s m given i j x y is h sink source =
    feed-cause r e s m given i j x y h (ok-cause p count i j is source) sink

-- ---- the loop

-- the bytes that a pull gave are those that the source lost, and none are left at its end
pub pull-lost : (p : Result ℕ Failed) (a b : Option (List ℕ)) (room : List ℕ) → Pulls a b p room → Loses a b (piece_of p room)
pull-lost (Ok n) a b room h = h.0
pull-lost (Err failed) a b room h = h

zero-is : (n : ℕ) → (n == 0) ≡ true → n ≡ 0
zero-is n h = grind (arith, nat_tests)

pub pull-ended : (p : Result ℕ Failed) (a b : Option (List ℕ)) (room : List ℕ) → 0 < length room → Pulls a b p room
    → is_ended p ≡ true → IsAtEnd b
pull-ended (Ok n) a b room some h ended = h.1 (zero-is n ended) some
pull-ended (Err failed) a b room some h ended = absurd (let no : false ≡ true = ended in cc)

-- the run ends with this pull
pub run-ends : (r : Option EngineOutcome) (o : EngineOutcome) (p : Result ℕ Failed) (e e' : Engine) (s : Settings)
    (left left' left'' : Option (List ℕ)) (room given given' : List ℕ) → r ≡ Some o → 0 < length room
    → (w : Running e s left left' given) → Pulls left' left'' p room
    → ((o ≡ outcome.Endless → ⊥) → e.progress.taken + length (piece_of p room) ≤ 2 ^ 62)
    → TurnAnswers r e' s (w.read ++ piece_of p room) (is_ended p) given' → Ran o e' s left left'' given'
run-ends r o p e e' s left left' left'' room given given' is some w pulls within answers = record {
  read = w.read ++ piece_of p room;
  ended = is_ended p;
  lost = Loses-twice left left' left'' w.read (piece_of p room) w.lost (pull-lost p left' left'' room pulls);
  at_end = pull-ended p left' left'' room some pulls;
  fits = λ never. omega (arith, within never, w.reads.reads.taken, length-append w.read (piece_of p room));
  answers = subst (λ (q : Option EngineOutcome). TurnAnswers q e' s (w.read ++ piece_of p room) (is_ended p) given') is answers;
}

-- it goes on
pub run-goes : (r : Option EngineOutcome) (p : Result ℕ Failed) (e e' : Engine) (s : Settings)
    (left left' left'' : Option (List ℕ)) (room given given' : List ℕ) → r ≡ None
    → (w : Running e s left left' given) → Pulls left' left'' p room
    → TurnAnswers r e' s (w.read ++ piece_of p room) (is_ended p) given' → Running e' s left left'' given'
run-goes r p e e' s left left' left'' room given given' is w pulls answers = record {
  read = w.read ++ piece_of p room;
  lost = Loses-twice left left' left'' w.read (piece_of p room) w.lost (pull-lost p left' left'' room pulls);
  reads = subst (λ (q : Option EngineOutcome). TurnAnswers q e' s (w.read ++ piece_of p room) (is_ended p) given') is answers;
}

pub causes-end : (r : Option EngineOutcome) (o : EngineOutcome) (i j x y : ℕ) → r ≡ Some o → TurnCauses r i j x y → RunCauses o i j x y
causes-end r o i j x y is h = subst (λ (q : Option EngineOutcome). TurnCauses q i j x y) is h

pub causes-go : (r : Option EngineOutcome) (i j x y : ℕ) → r ≡ None → TurnCauses r i j x y → (j ≡ i) × (y ≡ x)
causes-go r i j x y is h = subst (λ (q : Option EngineOutcome). TurnCauses q i j x y) is h
