-- An engine that runs over the self-test.
use Rattle.std.proofs.Common.{◌≡◌, ℕ, ◌+◌, ◌^◌, ◌<◌, ◌≤◌, ◌-◌, min, Bool, true, false, List, [], ◌++◌, length, Option, None, Some, refl, sym, ap, ◌∙◌, subst, arith}
use Rattle.std.proofs.lemmas.List.{append-nil, append_assoc}
use Rattle.std.proofs.lemmas.Option.{same_Some}
use Rattle.std.proofs.lemmas.Bool.Decides.{nat_tests}
use Rattle.orb_io.specs.Told.{Gives, IsPrefix, told_number}
use Rattle.orb_io.proofs.ToldLemmas.{IsPrefix-trans}
use Rattle.orb_engine.specs.declared.settings.Settings.{Settings}
use Rattle.orb_engine.specs.declared.engine.Engine.{Engine}
use Rattle.orb_engine.specs.declared.outcome.EngineOutcome.{EngineOutcome}
use Rattle.orb_engine.specs.declared.outcome.EngineOutcome.TheVariants.{Done, Bad, Cut, HeadLimit, MediaFull, Endless, ReadFault, WriteFault}
use Rattle.orb_engine.specs.Recording.{Recording, IsRecording}
use Rattle.orb_engine.specs.Outputs.{output_of}
use Rattle.orb_engine.specs.Reads.{IsStop, HaltCause}
use Rattle.orb_engine.specs.Runs.{Ends, Fails, Ran as EngineRan, RunCauses, allowed_by, blocked_by}
use Rattle.orb_engine.proofs.SizeLaws.{output-short}
use Rattle.orb_engine.proofs.AnswerLaws.{one-exchanges, output-ends}
use Rattle.orb_engine.proofs.CompleteLemmas.{ends_no_other, open_not_done, whole_is_not_endless}
use Rattle.trial.specs.Trials.{trial_of}
use Rattle.trial.specs.Recorded.{IsRecorded}
use Rattle.trial.proofs.WholeLemmas.{is_recorded}
use Rattle.orb_cli.specs.Trial.{IsTrialRecording, RunsTrial, BreaksTrial, TrialAnswers, IsTrialLine, trial_settings, trial_line}
use Rattle.orb_cli.proofs.AnswerLemmas.{within_all}

-- the recording that the law gives
recorded : (s : Settings) (seed count : ℕ) (l : IsRecorded s seed count) → IsTrialRecording s seed count l.recording
recorded s seed count l = record { cut = l.whole.cut; done = l.whole.done; number = l.number }

done_by : (e : Engine) (s : Settings) (seed count : ℕ) (read rest wrote : List ℕ) (ended : Bool) (l : IsRecorded s seed count)
    → trial_of seed count ≡ read ++ rest → (ended ≡ true → rest ≡ []) → Ends e s read ended (IsStop Done) wrote
    → RunsTrial e s seed count wrote
done_by e s seed count read rest wrote false l lost all h = absurd (open_not_done h.recording h.stop)
done_by e s seed count read rest wrote true l lost all h =
    let whole : read ≡ trial_of seed count = sym (lost ∙ ap (λ x. read ++ x) (all refl) ∙ append-nil read) in
    let cut : IsRecording s (trial_of seed count) h.recording = subst (λ (x : List ℕ). IsRecording s x h.recording) whole h.cut in
    record {
      recording = h.recording;
      is = record {
        cut = cut;
        done = h.stop;
        number = ap length (one-exchanges s (trial_of seed count) h.recording l.recording cut l.whole.cut) ∙ l.number;
      };
      output = h.gave;
      counted = h.counted;
    }

-- what begins the output begins that where the input has ended
ended_later : (s : Settings) (r : Recording) (ended : Bool) (wrote : List ℕ) → IsPrefix wrote (output_of s r ended)
    → IsPrefix wrote (output_of s r true)
ended_later s r true wrote within = within
ended_later s r false wrote within = IsPrefix-trans wrote (output_of s r false) (output_of s r true) within (output-ends s r)

breaks_by : (e : Engine) (s : Settings) (seed count : ℕ) (read rest wrote : List ℕ) (ended : Bool) (l : IsRecorded s seed count)
    → trial_of seed count ≡ read ++ rest → (ended ≡ true → rest ≡ []) → Fails e s read ended wrote
    → BreaksTrial s seed count wrote
breaks_by e s seed count read rest wrote ended l lost all h =
    let are : trial_of seed count ≡ h.seen ++ (h.unseen ++ rest) = lost ∙ ap (λ x. x ++ rest) h.all ∙ append_assoc h.seen h.unseen rest in
    let none : ended ≡ true → h.unseen ++ rest ≡ [] = λ is. ap (λ x. x ++ rest) (h.all_seen is) ∙ all is in
    let some : IsPrefix wrote (output_of s l.recording ended) =
    within_all s (trial_of seed count) h.seen (h.unseen ++ rest) wrote ended h.recording l.recording are none h.cut h.within l.whole.cut in
    record {
      recording = l.recording;
      is = recorded s seed count l;
      within = ended_later s l.recording ended wrote some;
    }

pub trial_answers : (o : EngineOutcome) (e : Engine) (s : Settings) (seed count : ℕ) (left' : Option (List ℕ)) (wrote : List ℕ) (sink sink' : ℕ)
    → IsRecorded s seed count → EngineRan o e s (Some (trial_of seed count)) left' wrote → RunCauses o 0 0 sink sink'
    → TrialAnswers o e s seed count wrote
trial_answers o e s seed count None wrote n n' l ran causes = absurd ran.lost
trial_answers Done e s seed count (Some rest) wrote n n' l ran causes =
    done_by e s seed count ran.read rest wrote ran.ended l ran.lost ran.at_end ran.answers
trial_answers WriteFault e s seed count (Some rest) wrote n n' l ran causes =
    breaks_by e s seed count ran.read rest wrote ran.ended l ran.lost ran.at_end ran.answers
trial_answers Endless e s seed count (Some rest) wrote n n' l ran causes =
    whole_is_not_endless s (trial_of seed count) ran.read rest l.recording l.whole ran.lost ran.answers.0
trial_answers ReadFault e s seed count (Some rest) wrote n n' l ran causes = omega (arith, causes.0.1)
trial_answers o e s seed count (Some rest) wrote n n' l ran causes =
    ends_no_other e s (trial_of seed count) ran.read rest l.recording ran.ended (IsStop o) wrote l.whole ran.lost ran.at_end ran.answers
    (λ x. cc) (λ x. cc)

pub trial_causes : (o : EngineOutcome) (sink sink' : ℕ) → RunCauses o 0 0 sink sink' → HaltCause o sink sink'
trial_causes Done n n' causes = causes.1
trial_causes (Bad kind place) n n' causes = causes.1
trial_causes (Cut place) n n' causes = causes.1
trial_causes (HeadLimit place) n n' causes = causes.1
trial_causes (MediaFull place) n n' causes = causes.1
trial_causes Endless n n' causes = causes.1
trial_causes ReadFault n n' causes = causes.1
trial_causes WriteFault n n' causes = causes.1

-- the sink that counts has the number of the bytes that it was given, where that is a u64
number_is : (zero_ m n size : ℕ) → zero_ ≡ 0 → min m (2 ^ 64 - 1) ≡ min (min zero_ (2 ^ 64 - 1) + size) (2 ^ 64 - 1)
    → min m (2 ^ 64 - 1) ≡ n → size < 2 ^ 64 → n ≡ size
number_is zero_ m n size none gained told fits =
    sym told ∙ gained
    ∙ ap (λ k. min k (2 ^ 64 - 1)) (ap (λ k. min k (2 ^ 64 - 1) + size) none)
    ∙ least size fits
  where
    least : (k : ℕ) → k < 2 ^ 64 → min (min 0 (2 ^ 64 - 1) + k) (2 ^ 64 - 1) ≡ k
    least k below = grind (arith, nat_tests, below)

-- what is written of the self-test is shorter than 2^64 bytes
trial-short : (seed count : ℕ) (r : Recording) → count ≤ 1000000 → IsTrialRecording trial_settings seed count r
    → length (output_of trial_settings r true) < 2 ^ 64
trial-short seed count r few is =
    let fits = (is_recorded trial_settings seed count few).whole.fits in
    let short = output-short trial_settings (trial_of seed count) r true refl is.cut in
    omega (arith, short, fits, is.number, few)

-- the line of the counts is that of the self-test
pub line_is : (e : Engine) (s : Settings) (seed count allowed blocked zero_ m n : ℕ) (line : List ℕ)
    → s ≡ trial_settings → count ≤ 1000000 → zero_ ≡ 0
    → Gives (told_number zero_) (told_number m) [] (TrialAnswers Done e s seed count)
    → allowed ≡ allowed_by e → blocked ≡ blocked_by e → (told_number m).size ≡ Some n
    → line ≡ trial_line count allowed blocked n → IsTrialLine seed count line
line_is e s seed count allowed blocked zero_ m n line same few none gives allows blocks told is =
    let h : RunsTrial e trial_settings seed count gives.more =
    subst (λ (t : Settings). RunsTrial e t seed count gives.more) same gives.holds in
    let size = ap length h.output in
    let short = trial-short seed count h.recording few h.is in
    let number = number_is zero_ m n (length gives.more) none gives.gained.number (same_Some _ _ told) (omega (arith, size, short)) in
    record {
      recording = h.recording;
      is = h.is;
      are = is ∙ rw (allows ∙ h.counted.allowed, blocks ∙ h.counted.blocked, number ∙ size) refl;
    }
