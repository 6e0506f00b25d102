-- Where nothing fails, a whole recording and a text are answered `Done`.
use Rattle.std.proofs.Common.{◌≡◌, ℕ, Bool, true, List, [], ◌++◌, Option, None, Some, sym, ap, ◌∙◌, subst}
use Rattle.orb_io.specs.Told.{Rose}
use Rattle.orb_engine.specs.declared.settings.Settings.{Settings}
use Rattle.orb_engine.specs.Recording.{Recording}
use Rattle.orb_engine.specs.Ends as ends
use Rattle.orb_engine.specs.Ends.{End}
use Rattle.orb_engine.specs.Complete.{IsWholeRecording, IsAll}
use Rattle.orb_engine.proofs.CompleteLemmas.{prefix_is_all, whole_is_not_endless}
use Rattle.orb_cli.specs.declared.outcome.Outcome.{Outcome}
use Rattle.orb_cli.specs.declared.outcome.Outcome.TheVariants.{Done, Usage, Bad, Cut, HeadLimit, MediaFull, Endless, ReadFault, WriteFault, NoMemory, NotHar, HarLimit}
use Rattle.orb_cli.specs.Answer.{EndsAt, IsJudgeAnswer, IsMimeAnswer, IsTrialAnswer, Ran, HasCauses}
use Rattle.orb_cli.specs.Complete.{IsComplete, IsCompleteText, IsCompleteTrial}

-- what was lost of the whole recording is all of it, and it ends Done
whole_ends : (s : Settings) (bytes read rest wrote : List ℕ) (r : Recording) (ended : Bool) (stop : End)
    → IsWholeRecording s bytes r → bytes ≡ read ++ rest → (ended ≡ true → rest ≡ []) → (h : EndsAt s read ended wrote stop)
    → (stop ≡ ends.Open → ⊥) → IsAll s r h.recording ended rest
whole_ends s bytes read rest wrote r ended stop whole lost all h closed =
    prefix_is_all s read rest r h.recording ended (subst (λ l. IsWholeRecording s l r) lost whole) h.cut all (λ o. closed (sym h.stops ∙ o))

-- it ends in nothing but Done
whole_is_done : (s : Settings) (bytes read rest wrote : List ℕ) (r : Recording) (ended : Bool) (stop : End)
    → IsWholeRecording s bytes r → bytes ≡ read ++ rest → (ended ≡ true → rest ≡ []) → EndsAt s read ended wrote stop
    → (stop ≡ ends.Open → ⊥) → (stop ≡ ends.Done → ⊥) → ⊥
whole_is_done s bytes read rest wrote r ended stop whole lost all h closed other =
    other (sym h.stops ∙ (whole_ends s bytes read rest wrote r ended stop whole lost all h closed).stop)

pub complete_recording : (s : Settings) (bytes : List ℕ) (r : Recording)
    (left' : Option (List ℕ)) (wrote : List ℕ) (source source' sink sink' : ℕ) (answer : Outcome)
    → IsWholeRecording s bytes r → Ran (IsJudgeAnswer s) (Some bytes) left' answer wrote
    → HasCauses source source' sink sink' answer → ¬ (Rose source source') → ¬ (Rose sink sink')
    → IsComplete s bytes r left' wrote answer
complete_recording s bytes r None wrote m m' n n' answer whole ran causes calm calm' = absurd ran.lost
complete_recording s bytes r (Some rest) wrote m m' n n' Done whole ran causes calm calm' =
    let all = whole_ends s bytes ran.read rest wrote r ran.ended ends.Done whole ran.lost ran.at_end ran.answers (λ o. cc) in
    (ap Some all.none_left, ran.answers.output ∙ all.output)
complete_recording s bytes r (Some rest) wrote m m' n n' (Bad kind place) whole ran causes calm calm' =
    whole_is_done s bytes ran.read rest wrote r ran.ended (ends.Bad kind place) whole ran.lost ran.at_end ran.answers (λ o. cc) (λ o. cc)
complete_recording s bytes r (Some rest) wrote m m' n n' (Cut place) whole ran causes calm calm' =
    whole_is_done s bytes ran.read rest wrote r ran.ended (ends.Cut place) whole ran.lost ran.at_end ran.answers (λ o. cc) (λ o. cc)
complete_recording s bytes r (Some rest) wrote m m' n n' (HeadLimit place) whole ran causes calm calm' =
    whole_is_done s bytes ran.read rest wrote r ran.ended (ends.HeadLimit place) whole ran.lost ran.at_end ran.answers (λ o. cc) (λ o. cc)
complete_recording s bytes r (Some rest) wrote m m' n n' (MediaFull place) whole ran causes calm calm' =
    whole_is_done s bytes ran.read rest wrote r ran.ended (ends.MediaFull place) whole ran.lost ran.at_end ran.answers (λ o. cc) (λ o. cc)
complete_recording s bytes r (Some rest) wrote m m' n n' Endless whole ran causes calm calm' =
    whole_is_not_endless s bytes ran.read rest r whole ran.lost ran.answers.0
complete_recording s bytes r (Some rest) wrote m m' n n' ReadFault whole ran causes calm calm' = calm causes.0
complete_recording s bytes r (Some rest) wrote m m' n n' WriteFault whole ran causes calm calm' = calm' causes.1
complete_recording s bytes r (Some rest) wrote m m' n n' Usage whole ran causes calm calm' = ran.answers
complete_recording s bytes r (Some rest) wrote m m' n n' (NotHar entry) whole ran causes calm calm' = ran.answers
complete_recording s bytes r (Some rest) wrote m m' n n' HarLimit whole ran causes calm calm' = ran.answers
complete_recording s bytes r (Some rest) wrote m m' n n' NoMemory whole ran causes calm calm' =
    let same : bytes ≡ rest = ran.lost ∙ ap (λ l. l ++ rest) ran.answers.0 in
    (ap Some (sym same), ran.answers.1)

pub complete_text : (text : List ℕ) (left left' : Option (List ℕ)) (wrote : List ℕ)
    (source source' sink sink' : ℕ) (answer : Outcome) → Ran (λ read ended wrote answer. IsMimeAnswer text read answer wrote) left left' answer wrote
    → HasCauses source source' sink sink' answer → ¬ (Rose sink sink') → IsCompleteText text wrote answer
complete_text text left left' wrote m m' n n' Done ran causes calm = ran.answers.1
complete_text text left left' wrote m m' n n' NoMemory ran causes calm = ran.answers.1
complete_text text left left' wrote m m' n n' WriteFault ran causes calm = calm causes.1
complete_text text left left' wrote m m' n n' _ ran causes calm = ran.answers

pub complete_trial : (seed count : ℕ) (left left' : Option (List ℕ)) (wrote : List ℕ)
    (source source' sink sink' : ℕ) (answer : Outcome)
    → Ran (λ read ended wrote answer. IsTrialAnswer seed count read answer wrote) left left' answer wrote
    → HasCauses source source' sink sink' answer → ¬ (Rose sink sink') → IsCompleteTrial seed count wrote answer
complete_trial seed count left left' wrote m m' n n' Done ran causes calm = ran.answers.1
complete_trial seed count left left' wrote m m' n n' NoMemory ran causes calm = ran.answers.1
complete_trial seed count left left' wrote m m' n n' WriteFault ran causes calm = calm causes.1
complete_trial seed count left left' wrote m m' n n' _ ran causes calm = ran.answers
