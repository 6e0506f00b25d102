-- What the word `har` answers, from what the engine does with the recording.
use Rattle.std.proofs.Common.{◌≡◌, ℕ, ◌≤◌, true, false, List, [], ◌++◌, length, length-append, Option, Ok, Err, refl, sym, ◌∙◌, subst, arith}
use Rattle.std.proofs.lemmas.List.{append-nil}
use Rattle.orb_io.specs.Told.{IsAtEnd, Loses}
use Rattle.orb_io.proofs.ToldLemmas.{IsPrefix-trans}
use Rattle.orb_engine.specs.declared.settings.Settings.{Settings}
use Rattle.orb_engine.specs.declared.engine.Engine.{Engine}
use Rattle.orb_engine.specs.declared.outcome.EngineOutcome.{EngineOutcome}
use Rattle.orb_engine.specs.declared.outcome.EngineOutcome.TheVariants.{Done, Bad, Cut, HeadLimit, MediaFull, Endless, ReadFault, WriteFault}
use Rattle.orb_engine.specs.Recording.{IsRecording}
use Rattle.orb_engine.specs.Ends as ends
use Rattle.orb_engine.specs.Ends.{End, stop_of}
use Rattle.orb_engine.specs.Outputs.{output_of}
use Rattle.orb_engine.specs.Reads.{HaltCause}
use Rattle.orb_engine.specs.Runs.{Ends, EndsAs}
use Rattle.orb_engine.proofs.AnswerLaws.{output-longer, refusal-stands}
use Rattle.orb_cli.specs.declared.outcome.Outcome.{Outcome}
use Rattle.orb_cli.specs.declared.outcome.Outcome.TheVariants as outcomes
use Rattle.orb_cli.specs.Outcomes.{outcome_of}
use Rattle.orb_cli.specs.Answer.{Ran, HasCauses}
use Rattle.har_recording.specs.Recorded.{har_of}
use Rattle.orb_cli.specs.declared.har_word.TheConstants.{MOST_OF_A_LOG}
use Rattle.orb_cli.specs.Har.{log_settings, EndsWhole, IsWholeAnswer, IsLogAnswer, IsHarAnswer, RefusesLog, RefusalCause, AddsPiece}
use Rattle.har_recording.proofs.RecordingLemmas.{all_sent}
use Rattle.orb_cli.proofs.AnswerLemmas.{within_all}
use Rattle.orb_cli.proofs.LogEndLemmas.{IsLogEnd, log_ends}

-- a refusal ends the recording whatever else comes, and here nothing does
refused_whole : (e : Engine) (s : Settings) (m wrote : List ℕ) (P : End → Type 0) (stop : End) (h : Ends e s m false P wrote)
    → stop_of h.recording false ≡ stop → (stop ≡ ends.Open → ⊥) → EndsWhole s m wrote stop
refused_whole e s m wrote P stop h is closed =
    let stands = refusal-stands s m [] h.recording h.cut (λ o. closed (sym is ∙ o)) in
    record {
      recording = stands.0;
      cut = subst (λ (l : List ℕ). IsRecording s l stands.0) (append-nil m) stands.1;
      stops = stands.2.stop true ∙ is;
      output = h.gave ∙ sym (stands.2.output true);
    }

-- what the engine answered before the end
pub fed_whole : (o : EngineOutcome) (e : Engine) (s : Settings) (m wrote : List ℕ) → EndsAs o e s m false wrote
    → IsWholeAnswer s m (outcome_of o) wrote
fed_whole Done e s m wrote h = refused_whole e s m wrote _ ends.Done h h.stop (λ o. cc)
fed_whole (Bad kind place) e s m wrote h = refused_whole e s m wrote _ (ends.Bad kind place) h h.stop (λ o. cc)
fed_whole (Cut place) e s m wrote h = refused_whole e s m wrote _ (ends.Cut place) h h.stop (λ o. cc)
fed_whole (HeadLimit place) e s m wrote h = refused_whole e s m wrote _ (ends.HeadLimit place) h h.stop (λ o. cc)
fed_whole (MediaFull place) e s m wrote h = refused_whole e s m wrote _ (ends.MediaFull place) h h.stop (λ o. cc)
fed_whole Endless e s m wrote h = h.stop
fed_whole ReadFault e s m wrote h = h.stop
fed_whole WriteFault e s m wrote h = λ r is.
    IsPrefix-trans wrote (output_of s h.recording false) (output_of s r true) h.within
    (output-longer s h.seen h.unseen h.recording r h.cut (subst (λ (l : List ℕ). IsRecording s l r) h.all is) true)

ended_so : (e : Engine) (s : Settings) (m wrote : List ℕ) (P : End → Type 0) (stop : End) (h : Ends e s m true P wrote)
    → stop_of h.recording true ≡ stop → EndsWhole s m wrote stop
ended_so e s m wrote P stop h is = record { recording = h.recording; cut = h.cut; stops = is; output = h.gave }

-- and at the end
pub ended_whole : (o : EngineOutcome) (e : Engine) (s : Settings) (m wrote : List ℕ) → EndsAs o e s m true wrote
    → IsWholeAnswer s m (outcome_of o) wrote
ended_whole Done e s m wrote h = ended_so e s m wrote _ ends.Done h h.stop
ended_whole (Bad kind place) e s m wrote h = ended_so e s m wrote _ (ends.Bad kind place) h h.stop
ended_whole (Cut place) e s m wrote h = ended_so e s m wrote _ (ends.Cut place) h h.stop
ended_whole (HeadLimit place) e s m wrote h = ended_so e s m wrote _ (ends.HeadLimit place) h h.stop
ended_whole (MediaFull place) e s m wrote h = ended_so e s m wrote _ (ends.MediaFull place) h h.stop
ended_whole Endless e s m wrote h = h.stop
ended_whole ReadFault e s m wrote h = h.stop
ended_whole WriteFault e s m wrote h = λ r is.
    within_all s m h.seen h.unseen wrote true h.recording r h.all h.all_seen h.cut h.within is

-- a piece that wasn't added
pub refused_piece : (old new piece : List ℕ) (o : Outcome) → length old ≤ MOST_OF_A_LOG → length piece ≤ 8192
    → AddsPiece old new piece (Err o) → RefusesLog (old ++ piece) o
refused_piece old new piece outcomes.HarLimit fits few says =
    (omega (arith, says, length-append old piece), omega (arith, fits, few, length-append old piece))
refused_piece old new piece outcomes.NoMemory fits few says = omega (arith, says, length-append old piece)
refused_piece old new piece _ fits few says = absurd says

-- nothing was written where the log wasn't read
pub unread_log : (o : Outcome) (read : List ℕ) (left left' : Option (List ℕ)) → Loses left left' read
    → RefusesLog read o → Ran IsHarAnswer left left' o []
unread_log outcomes.HarLimit read left left' lost says = record {
  read = read;
  ended = false;
  lost = lost;
  at_end = λ is. absurd (let no : false ≡ true = is in cc);
  fits = λ never. says.1;
  answers = (says.0, refl);
}
unread_log outcomes.ReadFault read left left' lost says = record {
  read = read;
  ended = false;
  lost = lost;
  at_end = λ is. absurd (let no : false ≡ true = is in cc);
  fits = λ never. omega (arith, says);
  answers = (refl, says, refl);
}
unread_log outcomes.NoMemory read left left' lost says = record {
  read = read;
  ended = false;
  lost = lost;
  at_end = λ is. absurd (let no : false ≡ true = is in cc);
  fits = λ never. omega (arith, says);
  answers = (says, refl);
}
unread_log _ read left left' lost says = absurd says

pub unread_causes : (o : Outcome) (read : List ℕ) (n n' m : ℕ) → RefusesLog read o → RefusalCause n n' o → HasCauses n n' m m o
unread_causes outcomes.ReadFault read n n' m says causes = (causes, refl)
unread_causes outcomes.HarLimit read n n' m says causes = (causes, refl)
unread_causes outcomes.NoMemory read n n' m says causes = (causes, refl)
unread_causes _ read n n' m says causes = absurd says

-- a fault of the sink alone
pub whole_causes : (o : EngineOutcome) (s : Settings) (m wrote : List ℕ) (n k k' : ℕ) → IsWholeAnswer s m (outcome_of o) wrote → HaltCause o k k'
    → HasCauses n n k k' (outcome_of o)
whole_causes WriteFault s m wrote n k k' says causes = (refl, causes)
whole_causes ReadFault s m wrote n k k' says causes = absurd says
whole_causes Done s m wrote n k k' says causes = (refl, causes)
whole_causes (Bad kind place) s m wrote n k k' says causes = (refl, causes)
whole_causes (Cut place) s m wrote n k k' says causes = (refl, causes)
whole_causes (HeadLimit place) s m wrote n k k' says causes = (refl, causes)
whole_causes (MediaFull place) s m wrote n k k' says causes = (refl, causes)
whole_causes Endless s m wrote n k k' says causes = absurd says

-- the recording of a log was judged
module _ (text recording : List ℕ) (fits : length text ≤ MOST_OF_A_LOG) (stands : har_of text ≡ Ok recording) where
  log_answer : (answer : Outcome) (wrote : List ℕ) → IsWholeAnswer log_settings recording answer wrote → IsLogAnswer text true wrote answer
  log_answer answer wrote says = record {
    whole = record { is_ended = refl; fits = fits };
    recording = recording;
    stands_for = stands;
    judged = says;
  }

  -- the recording ends so
  never : (wrote : List ℕ) (stop : End) → EndsWhole log_settings recording wrote stop → IsLogEnd stop
  never wrote stop says = subst IsLogEnd says.stops (log_ends log_settings recording says.recording (all_sent text recording stands) says.cut)

  pub log_judged : (answer : Outcome) (wrote : List ℕ) → IsWholeAnswer log_settings recording answer wrote → IsHarAnswer text true wrote answer
  log_judged outcomes.Done wrote says = log_answer outcomes.Done wrote says
  log_judged (outcomes.Bad kind place) wrote says = log_answer (outcomes.Bad kind place) wrote says
  log_judged (outcomes.HeadLimit place) wrote says = log_answer (outcomes.HeadLimit place) wrote says
  log_judged outcomes.WriteFault wrote says = log_answer outcomes.WriteFault wrote says
  log_judged outcomes.NoMemory wrote says = (fits, says)
  log_judged (outcomes.Cut place) wrote says = absurd (never wrote (ends.Cut place) says)
  log_judged (outcomes.MediaFull place) wrote says = absurd (never wrote (ends.MediaFull place) says)
  log_judged outcomes.Endless wrote says = says
  log_judged outcomes.ReadFault wrote says = absurd says
  log_judged outcomes.Usage wrote says = says
  log_judged (outcomes.NotHar entry) wrote says = absurd says
  log_judged outcomes.HarLimit wrote says = absurd says

-- a log that was read to its end was judged
pub read_judged : (read text : List ℕ) (left left' : Option (List ℕ)) (answer : Outcome) (wrote : List ℕ) → Loses left left' read → text ≡ read
    → length read ≤ MOST_OF_A_LOG → IsAtEnd left' → IsHarAnswer text true wrote answer → Ran IsHarAnswer left left' answer wrote
read_judged read text left left' answer wrote lost same fits at_end says = record {
  read = read;
  ended = true;
  lost = lost;
  at_end = λ is. at_end;
  fits = λ never. omega (arith, fits);
  answers = subst (λ (t : List ℕ). IsHarAnswer t true wrote answer) same says;
}
