-- Where nothing fails, a log whose recording ends Done is answered `Done`.
use Rattle.std.proofs.Common.{◌≡◌, ℕ, ◌≤◌, true, List, [], ◌++◌, length, Option, None, Some, Ok, Err, sym, ap, ◌∙◌, subst, arith}
use Rattle.std.proofs.lemmas.List.{append-nil, length-append}
use Rattle.orb_io.specs.Told.{Rose}
use Rattle.orb_engine.specs.Recording.{Recording, IsRecording}
use Rattle.orb_engine.specs.Ends as ends
use Rattle.orb_engine.specs.Ends.{End, stop_of}
use Rattle.orb_engine.specs.Outputs.{output_of}
use Rattle.orb_engine.proofs.AnswerLaws.{one-stop, one-output}
use Rattle.har_recording.specs.Recorded.{har_of}
use Rattle.orb_cli.specs.declared.har_word.TheConstants.{MOST_OF_A_LOG}
use Rattle.orb_cli.specs.declared.outcome.Outcome.{Outcome}
use Rattle.orb_cli.specs.declared.outcome.Outcome.TheVariants.{Done, Usage, Bad, Cut, HeadLimit, MediaFull, Endless, ReadFault, WriteFault, NoMemory, NotHar, HarLimit}
use Rattle.orb_cli.specs.Answer.{Ran, HasCauses}
use Rattle.orb_cli.specs.Complete.{IsCompleteLog}
use Rattle.orb_cli.specs.Har.{log_settings, EndsWhole, IsHarAnswer}

-- the log that was read, and its recording
module _ (bytes recording read rest : List ℕ) (r : Recording) (stands : har_of bytes ≡ Ok recording) (cut : IsRecording log_settings recording r)
    (lost : bytes ≡ read ++ rest) where
  all_read : rest ≡ [] → bytes ≡ read
  all_read none = lost ∙ ap (λ l. read ++ l) none ∙ append-nil read

  same_recording : (other : List ℕ) → rest ≡ [] → har_of read ≡ Ok other → other ≡ recording
  same_recording other none is = let same : Ok other ≡ Ok recording = sym is ∙ ap har_of (sym (all_read none)) ∙ stands in cc

  module _ (other wrote : List ℕ) (stop : End) (none : rest ≡ []) (is : har_of read ≡ Ok other) (ended : EndsWhole log_settings other wrote stop) where
    same_cut : IsRecording log_settings recording ended.recording
    same_cut = subst (λ (l : List ℕ). IsRecording log_settings l ended.recording) (same_recording other none is) ended.cut

    pub same_stop : stop ≡ stop_of r true
    same_stop = sym ended.stops ∙ one-stop log_settings recording ended.recording r same_cut cut true

    pub same_output : wrote ≡ output_of log_settings r true
    same_output = ended.output ∙ one-output log_settings recording ended.recording r same_cut cut true

  no_fault : (entry : ℕ) → rest ≡ [] → har_of read ≡ Err entry → ⊥
  no_fault entry none is = let bad : Err entry ≡ Ok recording = sym is ∙ ap har_of (sym (all_read none)) ∙ stands in absurd (cc)

pub complete_log : (bytes recording : List ℕ) (r : Recording) (left' : Option (List ℕ)) (wrote : List ℕ)
    (source source' sink sink' : ℕ) (answer : Outcome)
    → length bytes ≤ MOST_OF_A_LOG → har_of bytes ≡ Ok recording → IsRecording log_settings recording r → stop_of r true ≡ ends.Done
    → Ran IsHarAnswer (Some bytes) left' answer wrote
    → HasCauses source source' sink sink' answer → ¬ (Rose source source') → ¬ (Rose sink sink')
    → IsCompleteLog r left' wrote answer
complete_log bytes recording r None wrote m m' n n' answer fits stands cut done ran causes calm calm' = absurd ran.lost
complete_log bytes recording r (Some rest) wrote m m' n n' Done fits stands cut done ran causes calm calm' =
    let w = ran.answers in
    let none : rest ≡ [] = ran.at_end w.whole.is_ended in
    (ap Some none, same_output bytes recording ran.read rest r stands cut ran.lost w.recording wrote ends.Done none w.stands_for w.judged)
complete_log bytes recording r (Some rest) wrote m m' n n' (Bad kind place) fits stands cut done ran causes calm calm' =
    let w = ran.answers in
    let bad = same_stop bytes recording ran.read rest r stands cut ran.lost w.recording wrote (ends.Bad kind place) (ran.at_end w.whole.is_ended) w.stands_for w.judged ∙ done in
    absurd (cc)
complete_log bytes recording r (Some rest) wrote m m' n n' (HeadLimit place) fits stands cut done ran causes calm calm' =
    let w = ran.answers in
    let bad = same_stop bytes recording ran.read rest r stands cut ran.lost w.recording wrote (ends.HeadLimit place) (ran.at_end w.whole.is_ended) w.stands_for w.judged ∙ done in
    absurd (cc)
complete_log bytes recording r (Some rest) wrote m m' n n' (NotHar entry) fits stands cut done ran causes calm calm' =
    no_fault bytes recording ran.read rest r stands cut ran.lost entry (ran.at_end ran.answers.0.is_ended) ran.answers.1
complete_log bytes recording r (Some rest) wrote m m' n n' HarLimit fits stands cut done ran causes calm calm' =
    omega (arith, fits, ap length ran.lost, length-append ran.read rest, ran.answers.0)
complete_log bytes recording r (Some rest) wrote m m' n n' (Cut place) fits stands cut done ran causes calm calm' = ran.answers
complete_log bytes recording r (Some rest) wrote m m' n n' (MediaFull place) fits stands cut done ran causes calm calm' = ran.answers
complete_log bytes recording r (Some rest) wrote m m' n n' Endless fits stands cut done ran causes calm calm' = ran.answers
complete_log bytes recording r (Some rest) wrote m m' n n' Usage fits stands cut done ran causes calm calm' = ran.answers
complete_log bytes recording r (Some rest) wrote m m' n n' ReadFault fits stands cut done ran causes calm calm' = calm causes.0
complete_log bytes recording r (Some rest) wrote m m' n n' WriteFault fits stands cut done ran causes calm calm' = calm' causes.1
complete_log bytes recording r (Some rest) wrote m m' n n' NoMemory fits stands cut done ran causes calm calm' = ran.answers.1
