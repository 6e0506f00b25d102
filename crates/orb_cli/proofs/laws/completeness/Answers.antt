use Rattle.orb_cli.specs.Words.{settings_of}
use Rattle.orb_cli.specs.Answer.{Answers, IsJudgeAnswer, IsMimeAnswer, IsTrialAnswer}
use Rattle.orb_cli.proofs.WordLemmas.{Ran-as, judged_of, mime_of, trial_of, har_of, type_of}
use Rattle.orb_cli.specs.Har.{IsHarAnswer}
use Rattle.orb_cli.specs.Typed.{IsTypeAnswer}
use Rattle.orb_cli.proofs.LogLemmas.{complete_log}
use Rattle.orb_cli.proofs.TypedLemmas.{complete_type}
use Rattle.orb_cli.proofs.CompleteLemmas.{complete_recording, complete_text, complete_trial}
use Rattle.orb_cli.proofs.laws.completeness.Goals as goal

pub returns : goal.returns
returns c = record {
  recordings = λ words job policy limit bytes r left' wrote m m' n n' answer taken whole ran causes calm calm'.
      complete_recording (settings_of job policy limit) bytes r left' wrote m m' n n' answer whole
      (Ran-as (Answers words) (IsJudgeAnswer (settings_of job policy limit)) _ left' answer wrote
      (λ read ended. judged_of words job policy limit taken answer read ended wrote) ran) causes calm calm';
  texts = λ words text left left' wrote m m' n n' answer taken ran causes calm.
      complete_text text left left' wrote m m' n n' answer
      (Ran-as (Answers words) (λ read ended wrote answer. IsMimeAnswer text read answer wrote) left left' answer wrote
      (λ read ended. mime_of words text taken answer read ended wrote) ran) causes calm;
  trials = λ words seed count left left' wrote m m' n n' answer taken ran causes calm.
      complete_trial seed count left left' wrote m m' n n' answer
      (Ran-as (Answers words) (λ read ended wrote answer. IsTrialAnswer seed count read answer wrote) left left' answer wrote
      (λ read ended. trial_of words seed count taken answer read ended wrote) ran) causes calm;
  logs = λ words bytes recording r left' wrote m m' n n' answer taken fits stands cut done ran causes calm calm'.
      complete_log bytes recording r left' wrote m m' n n' answer fits stands cut done
      (Ran-as (Answers words) IsHarAnswer _ left' answer wrote (λ read ended. har_of words taken answer read ended wrote) ran)
      causes calm calm';
  types = λ words bytes line left' wrote m m' n n' answer taken has fits ran causes calm calm'.
      complete_type bytes line left' wrote m m' n n' answer has fits
      (Ran-as (Answers words) IsTypeAnswer _ left' answer wrote (λ read ended. type_of words taken answer read ended wrote) ran)
      causes calm calm';
}
