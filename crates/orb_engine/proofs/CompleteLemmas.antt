-- Where nothing fails, a run over a whole recording reads all of it and writes all that is written of it.
use Rattle.std.proofs.Common.{◌≡◌, ℕ, ◌<◌, ◌≤◌, Bool, true, false, List, [], ◌∷◌, ◌++◌, length, Option, None, Some, refl, sym, ap, ◌∙◌, subst, arith}
use Rattle.std.proofs.lemmas.List.{append-nil, length-append}
use Rattle.orb_io.specs.Told.{Rose}
use Rattle.orb_io.specs.declared.pulling.TheConstants.{MOST_OF_A_RUN}
use Rattle.orb_engine.specs.declared.settings.Settings.{Settings}
use Rattle.orb_engine.specs.declared.engine.Engine.{Engine}
use Rattle.orb_engine.specs.declared.outcome.EngineOutcome.{EngineOutcome}
use Rattle.orb_engine.specs.declared.outcome.EngineOutcome.TheVariants.{Done, Endless, ReadFault, WriteFault}
use Rattle.orb_engine.specs.Recording as cut
use Rattle.orb_engine.specs.Recording.{Tail, Recording, IsRecording, exchanges_text}
use Rattle.orb_engine.specs.Ends as ends
use Rattle.orb_engine.specs.Ends.{End, stop_at, stop_of}
use Rattle.orb_engine.specs.Reads.{IsStop}
use Rattle.orb_engine.specs.Runs.{Ends, Ran, RunCauses}
use Rattle.orb_engine.specs.Complete.{IsWholeRecording, IsAll, IsComplete}
use Rattle.orb_engine.proofs.AnswerLaws.{one-stop, one-output, refusal-alone}

-- no recording is done where more may come
never_done : (offset : ℕ) (t : Tail) → stop_at offset false t ≡ ends.Done → ⊥
never_done offset (cut.InRequestHead []) h = cc
never_done offset (cut.InRequestHead (b ∷ head)) h = cc
never_done offset _ h = cc

pub open_not_done : (a : Recording) → stop_of a false ≡ ends.Done → ⊥
unfolding stop_of
open_not_done a h = never_done (length (exchanges_text a.exchanges [])) a.tail h

pub prefix_is_all : (s : Settings) (read rest : List ℕ) (r a : Recording) (ended : Bool)
    → IsWholeRecording s (read ++ rest) r → IsRecording s read a → (ended ≡ true → rest ≡ [])
    → (stop_of a ended ≡ ends.Open → ⊥) → IsAll s r a ended rest
prefix_is_all s read rest r a false whole first all closed =
    let same = refusal-alone s read rest a r first closed whole.cut in
    absurd (open_not_done a (sym (same.stop true) ∙ whole.done))
prefix_is_all s read rest r a true whole first all closed =
    let none : rest ≡ [] = all refl in
    let same : read ++ rest ≡ read = ap (λ l. read ++ l) none ∙ append-nil read in
    let one : IsRecording s read r = subst (λ m. IsRecording s m r) same whole.cut in
    record {
      stop = one-stop s read a r first one true ∙ whole.done;
      none_left = none;
      output = one-output s read a r first one true;
    }

-- there are no more bytes than one run takes
pub whole_is_not_endless : (s : Settings) (bytes read rest : List ℕ) (r : Recording) → IsWholeRecording s bytes r → bytes ≡ read ++ rest
    → MOST_OF_A_RUN < length read → ⊥
whole_is_not_endless s bytes read rest r whole lost more =
    let fits : length (read ++ rest) ≤ MOST_OF_A_RUN = subst (λ l. length l ≤ MOST_OF_A_RUN) lost whole.fits in
    omega (arith, length-append read rest)

-- an end that is not open is that of the whole recording
pub ends_all : (e : Engine) (s : Settings) (bytes read rest : List ℕ) (r : Recording) (ended : Bool) (P : End → Type 0) (given : List ℕ)
    → IsWholeRecording s bytes r → bytes ≡ read ++ rest → (ended ≡ true → rest ≡ [])
    → (h : Ends e s read ended P given) → (P ends.Open → ⊥) → IsAll s r h.recording ended rest
ends_all e s bytes read rest r ended P given whole lost all h closed =
    prefix_is_all s read rest r h.recording ended (subst (λ l. IsWholeRecording s l r) lost whole) h.cut all
    (λ o. closed (subst P o h.stop))

-- nor is it another end
pub ends_no_other : (e : Engine) (s : Settings) (bytes read rest : List ℕ) (r : Recording) (ended : Bool) (P : End → Type 0) (given : List ℕ)
    → IsWholeRecording s bytes r → bytes ≡ read ++ rest → (ended ≡ true → rest ≡ [])
    → Ends e s read ended P given → (P ends.Open → ⊥) → (P ends.Done → ⊥) → ⊥
ends_no_other e s bytes read rest r ended P given whole lost all h closed other =
    let a = ends_all e s bytes read rest r ended P given whole lost all h closed in
    other (subst P a.stop h.stop)

pub run_is_complete : (o : EngineOutcome) (e : Engine) (s : Settings) (bytes : List ℕ) (r : Recording)
    (left' : Option (List ℕ)) (given : List ℕ) (source source' sink sink' : ℕ)
    → IsWholeRecording s bytes r → Ran o e s (Some bytes) left' given
    → RunCauses o source source' sink sink' → ¬ (Rose source source') → ¬ (Rose sink sink')
    → IsComplete o s r left' given
run_is_complete o e s bytes r None given m m' n n' whole ran causes no_faults no_faults' = absurd ran.lost
run_is_complete Done e s bytes r (Some rest) given m m' n n' whole ran causes no_faults no_faults' =
    let h = ran.answers in
    let all = ends_all e s bytes ran.read rest r ran.ended (IsStop Done) given whole ran.lost ran.at_end h (λ o. cc) in
    record { done = refl; left = ap Some all.none_left; wrote = h.gave ∙ all.output }
run_is_complete Endless e s bytes r (Some rest) given m m' n n' whole ran causes no_faults no_faults' =
    absurd (whole_is_not_endless s bytes ran.read rest r whole ran.lost ran.answers.0)
run_is_complete ReadFault e s bytes r (Some rest) given m m' n n' whole ran causes no_faults no_faults' = absurd (no_faults causes.0)
run_is_complete WriteFault e s bytes r (Some rest) given m m' n n' whole ran causes no_faults no_faults' = absurd (no_faults' causes.1)
run_is_complete o e s bytes r (Some rest) given m m' n n' whole ran causes no_faults no_faults' =
    absurd (ends_no_other e s bytes ran.read rest r ran.ended (IsStop o) given whole ran.lost ran.at_end ran.answers (λ x. cc) (λ x. cc))
