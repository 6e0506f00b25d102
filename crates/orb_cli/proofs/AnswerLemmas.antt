-- From what the engine answers to what the program does.
use Rattle.std.proofs.Common.{◌≡◌, ℕ, Bool, true, false, List, [], ◌++◌, Option, refl, sym, ap, ◌∙◌, subst}
use Rattle.std.proofs.lemmas.List.{append-nil}
use Rattle.orb_io.specs.Told.{IsPrefix}
use Rattle.orb_io.proofs.ToldLemmas.{IsPrefix-trans}
use Rattle.orb_engine.specs.declared.settings.Settings.{Settings}
use Rattle.orb_engine.specs.Recording.{Recording, IsRecording}
use Rattle.orb_engine.specs.Ends as ends
use Rattle.orb_engine.specs.Ends.{End, stop_of}
use Rattle.orb_engine.specs.Outputs.{output_of}
use Rattle.orb_engine.proofs.AnswerLaws.{one-output, output-longer}
use Rattle.orb_engine.specs.Runs.{Ends, Fails, RunAnswers, Ran as EngineRan}
use Rattle.orb_engine.specs.declared.engine.Engine.{Engine}
use Rattle.orb_engine.specs.declared.outcome.EngineOutcome.{EngineOutcome}
use Rattle.orb_engine.specs.declared.outcome.EngineOutcome.TheVariants.{Done, Bad, Cut, HeadLimit, MediaFull, Endless, ReadFault, WriteFault}
use Rattle.orb_cli.specs.declared.outcome.Outcome.{Outcome}
use Rattle.orb_cli.specs.Answer.{EndsAt, FallsShort, IsJudgeAnswer, Ran}
use Rattle.orb_cli.specs.Outcomes.{outcome_of}

EndsAt-ends : (e : Engine) (s : Settings) (read : List ℕ) (ended : Bool) (P : End → Type 0) (stop : End) (wrote : List ℕ)
    (h : Ends e s read ended P wrote) → stop_of h.recording ended ≡ stop → EndsAt s read ended wrote stop
EndsAt-ends e s read ended P stop wrote h is =
    record { recording = h.recording; cut = h.cut; stops = is; output = h.gave }

-- what begins the output of the first bytes begins that of all of them
pub within_all : (s : Settings) (read seen unseen wrote : List ℕ) (ended : Bool) (a r : Recording)
    → read ≡ seen ++ unseen → (ended ≡ true → unseen ≡ []) → IsRecording s seen a → IsPrefix wrote (output_of s a ended)
    → IsRecording s read r → IsPrefix wrote (output_of s r ended)
within_all s read seen unseen wrote false a r are all x within y =
    let longer : IsRecording s (seen ++ unseen) r = subst (λ m. IsRecording s m r) are y in
    IsPrefix-trans wrote (output_of s a false) (output_of s r false) within (output-longer s seen unseen a r x longer false)
within_all s read seen unseen wrote true a r are all x within y =
    let none : unseen ≡ [] = all refl in
    let same : read ≡ seen = are ∙ ap (λ l. seen ++ l) none ∙ append-nil seen in
    subst (λ out. IsPrefix wrote out) (one-output s seen a r x (subst (λ m. IsRecording s m r) same y) true) within

FallsShort-fails : (e : Engine) (s : Settings) (read : List ℕ) (ended : Bool) (wrote : List ℕ) (h : Fails e s read ended wrote)
    → FallsShort s read ended wrote
FallsShort-fails e s read ended wrote h = record {
  seen = h.seen;
  unseen = h.unseen;
  are = h.all;
  recording = h.recording;
  cut = h.cut;
  within = h.within;
  of_all = λ r is. within_all s read h.seen h.unseen wrote ended h.recording r h.all h.all_seen h.cut h.within is;
}

judges : (o : EngineOutcome) (e : Engine) (s : Settings) (read : List ℕ) (ended : Bool) (wrote : List ℕ)
    → RunAnswers o e s read ended wrote → IsJudgeAnswer s read ended wrote (outcome_of o)
judges Done e s read ended wrote h = EndsAt-ends e s read ended _ ends.Done wrote h h.stop
judges (Bad kind place) e s read ended wrote h = EndsAt-ends e s read ended _ (ends.Bad kind place) wrote h h.stop
judges (Cut place) e s read ended wrote h = EndsAt-ends e s read ended _ (ends.Cut place) wrote h h.stop
judges (HeadLimit place) e s read ended wrote h = EndsAt-ends e s read ended _ (ends.HeadLimit place) wrote h h.stop
judges (MediaFull place) e s read ended wrote h = EndsAt-ends e s read ended _ (ends.MediaFull place) wrote h h.stop
judges Endless e s read ended wrote h = (h.0, h.1, EndsAt-ends e s _ false _ ends.Open wrote h.2 h.2.stop)
judges ReadFault e s read ended wrote h = (h.0, EndsAt-ends e s read false _ ends.Open wrote h.1 h.1.stop)
judges WriteFault e s read ended wrote h = FallsShort-fails e s read ended wrote h

pub Ran-run : (o : EngineOutcome) (e : Engine) (t s : Settings) (left left' : Option (List ℕ)) (answer : Outcome) (wrote : List ℕ)
    → t ≡ s → answer ≡ outcome_of o → EngineRan o e t left left' wrote → Ran (IsJudgeAnswer s) left left' answer wrote
Ran-run o e t s left left' answer wrote same is ran =
    let these : Ran (IsJudgeAnswer t) left left' (outcome_of o) wrote = record {
      read = ran.read;
      ended = ran.ended;
      lost = ran.lost;
      at_end = ran.at_end;
      fits = λ never. ran.fits (λ endless. never (ap outcome_of endless));
      answers = judges o e t ran.read ran.ended wrote ran.answers;
    } in
    subst (λ x. Ran (IsJudgeAnswer s) left left' x wrote) (sym is)
    (subst (λ x. Ran (IsJudgeAnswer x) left left' (outcome_of o) wrote) same these)
