-- From what the words ask for to what an answer says, and back.
use Rattle.std.proofs.Common.{◌≡◌, ℕ, Bool, true, false, List, [], length, Option, inl, inr, ap, subst, arith}
use Rattle.orb_io.proofs.ToldLemmas.{Loses-none}
use Rattle.command_line.specs.declared.asked.Job.{Job}
use Rattle.command_line.specs.declared.asked.Policy.{Policy}
use Rattle.command_line.specs.Taken.{Asked, Judge, Trial, Mime, Har, ComputedType, IsTaken}
use Rattle.command_line.proofs.TakenLemmas.{one_asked}
use Rattle.orb_cli.specs.declared.outcome.Outcome.{Outcome}
use Rattle.orb_cli.specs.declared.outcome.Outcome.TheVariants.{Done, Usage, Bad, Cut, HeadLimit, MediaFull, Endless, ReadFault, WriteFault, NoMemory, NotHar, HarLimit}
use Rattle.orb_cli.specs.Words.{settings_of}
use Rattle.orb_cli.specs.Answer.{IsJudgeAnswer, IsMimeAnswer, IsTrialAnswer, IsAnswer, Answers, AnswersWords, FindsNoMemory, Untouched, Ran}
use Rattle.orb_cli.specs.Har.{IsHarAnswer}
use Rattle.orb_cli.specs.Typed.{IsTypeAnswer}

-- what says another thing of an answer
pub Ran-as : (P Q : (read : List ℕ) (ended : Bool) (wrote : List ℕ) → Outcome → Type 0)
    (left left' : Option (List ℕ)) (answer : Outcome) (wrote : List ℕ)
    → ((read : List ℕ) (ended : Bool) → P read ended wrote answer → Q read ended wrote answer)
    → Ran P left left' answer wrote → Ran Q left left' answer wrote
Ran-as P Q left left' answer wrote says ran = record {
  read = ran.read;
  ended = ran.ended;
  lost = ran.lost;
  at_end = ran.at_end;
  fits = ran.fits;
  answers = says ran.read ran.ended ran.answers;
}

-- where nothing was read
pub Ran-unread : (P : (read : List ℕ) (ended : Bool) (wrote : List ℕ) → Outcome → Type 0)
    (left : Option (List ℕ)) (answer : Outcome) (wrote : List ℕ) → P [] false wrote answer → Ran P left left answer wrote
Ran-unread P left answer wrote says = record {
  read = [];
  ended = false;
  lost = Loses-none left;
  at_end = λ is. absurd (let no : false ≡ true = is in cc);
  fits = λ never. omega arith;
  answers = says;
}

-- the answers to words that are taken
pub mime_words : (words : List (List ℕ)) (text : List ℕ) → IsTaken words (Mime text)
    → (answer : Outcome) (read : List ℕ) (ended : Bool) (wrote : List ℕ)
    → IsMimeAnswer text read answer wrote → Answers words read ended wrote answer
mime_words words text taken Done read ended wrote says = (Mime text, taken, says)
mime_words words text taken WriteFault read ended wrote says = (Mime text, taken, says)
mime_words words text taken NoMemory read ended wrote says = (inl says.0, says.1)
mime_words words text taken _ read ended wrote says = absurd says

pub trial_words : (words : List (List ℕ)) (seed count : ℕ) → IsTaken words (Trial seed count)
    → (answer : Outcome) (read : List ℕ) (ended : Bool) (wrote : List ℕ)
    → IsTrialAnswer seed count read answer wrote → Answers words read ended wrote answer
trial_words words seed count taken Done read ended wrote says = (Trial seed count, taken, says)
trial_words words seed count taken WriteFault read ended wrote says = (Trial seed count, taken, says)
trial_words words seed count taken NoMemory read ended wrote says = (inl says.0, says.1)
trial_words words seed count taken _ read ended wrote says = absurd says

pub har_words : (words : List (List ℕ)) → IsTaken words Har → (answer : Outcome) (read : List ℕ) (ended : Bool) (wrote : List ℕ)
    → IsHarAnswer read ended wrote answer → Answers words read ended wrote answer
har_words words taken Done read ended wrote says = (Har, taken, says)
har_words words taken (Bad kind place) read ended wrote says = (Har, taken, says)
har_words words taken (Cut place) read ended wrote says = absurd says
har_words words taken (HeadLimit place) read ended wrote says = (Har, taken, says)
har_words words taken (MediaFull place) read ended wrote says = absurd says
har_words words taken ReadFault read ended wrote says = (Har, taken, says)
har_words words taken WriteFault read ended wrote says = (Har, taken, says)
har_words words taken (NotHar entry) read ended wrote says = (Har, taken, says)
har_words words taken HarLimit read ended wrote says = (Har, taken, says)
har_words words taken NoMemory read ended wrote says = (inr (taken, says.0), says.1)
har_words words taken Endless read ended wrote says = absurd says
har_words words taken Usage read ended wrote says = absurd says

pub type_words : (words : List (List ℕ)) → IsTaken words ComputedType → (answer : Outcome) (read : List ℕ) (ended : Bool) (wrote : List ℕ)
    → IsTypeAnswer read ended wrote answer → Answers words read ended wrote answer
type_words words taken Done read ended wrote says = (ComputedType, taken, says)
type_words words taken (Bad kind place) read ended wrote says = (ComputedType, taken, says)
type_words words taken (Cut place) read ended wrote says = (ComputedType, taken, says)
type_words words taken (HeadLimit place) read ended wrote says = (ComputedType, taken, says)
type_words words taken Endless read ended wrote says = (ComputedType, taken, says)
type_words words taken ReadFault read ended wrote says = (ComputedType, taken, says)
type_words words taken WriteFault read ended wrote says = (ComputedType, taken, says)
type_words words taken NoMemory read ended wrote says = (inl says.0, says.1)
type_words words taken (MediaFull place) read ended wrote says = absurd says
type_words words taken (NotHar entry) read ended wrote says = absurd says
type_words words taken HarLimit read ended wrote says = absurd says
type_words words taken Usage read ended wrote says = absurd says

-- words that ask for something else than a log: where memory ran out nothing was read
untouched_of : (words : List (List ℕ)) (asked : Asked) (read wrote : List ℕ) → IsTaken words asked → (asked ≡ Har → ⊥)
    → FindsNoMemory words read wrote → Untouched read wrote
untouched_of words asked read wrote taken other (inl none, nothing) = (none, nothing)
untouched_of words asked read wrote taken other (inr log, nothing) = absurd (other (one_asked words asked Har taken log.0))

-- and what they say where the words ask for this
said_of : (words : List (List ℕ)) (asked : Asked) (read : List ℕ) (ended : Bool) (wrote : List ℕ) (answer : Outcome)
    → IsTaken words asked → AnswersWords words read ended wrote answer → IsAnswer asked read ended wrote answer
said_of words asked read ended wrote answer taken (other, is, says) =
    subst (λ (a : Asked). IsAnswer a read ended wrote answer) (one_asked words other asked is taken) says

pub judged_of : (words : List (List ℕ)) (job : Job) (policy : Policy) (limit : ℕ) → IsTaken words (Judge job policy limit)
    → (answer : Outcome) (read : List ℕ) (ended : Bool) (wrote : List ℕ)
    → Answers words read ended wrote answer → IsJudgeAnswer (settings_of job policy limit) read ended wrote answer
judged_of words job policy limit taken Usage read ended wrote says =
    absurd (let no : true ≡ false = says.0 (Judge job policy limit) taken in cc)
judged_of words job policy limit taken NoMemory read ended wrote says = untouched_of words (Judge job policy limit) read wrote taken (λ e. cc) says
judged_of words job policy limit taken (NotHar entry) read ended wrote says = said_of words (Judge job policy limit) read ended wrote (NotHar entry) taken says
judged_of words job policy limit taken HarLimit read ended wrote says = said_of words (Judge job policy limit) read ended wrote HarLimit taken says
judged_of words job policy limit taken Done read ended wrote says = said_of words (Judge job policy limit) read ended wrote Done taken says
judged_of words job policy limit taken (Bad kind place) read ended wrote says = said_of words (Judge job policy limit) read ended wrote (Bad kind place) taken says
judged_of words job policy limit taken (Cut place) read ended wrote says = said_of words (Judge job policy limit) read ended wrote (Cut place) taken says
judged_of words job policy limit taken (HeadLimit place) read ended wrote says = said_of words (Judge job policy limit) read ended wrote (HeadLimit place) taken says
judged_of words job policy limit taken (MediaFull place) read ended wrote says = said_of words (Judge job policy limit) read ended wrote (MediaFull place) taken says
judged_of words job policy limit taken Endless read ended wrote says = said_of words (Judge job policy limit) read ended wrote Endless taken says
judged_of words job policy limit taken ReadFault read ended wrote says = said_of words (Judge job policy limit) read ended wrote ReadFault taken says
judged_of words job policy limit taken WriteFault read ended wrote says = said_of words (Judge job policy limit) read ended wrote WriteFault taken says

pub mime_of : (words : List (List ℕ)) (text : List ℕ) → IsTaken words (Mime text)
    → (answer : Outcome) (read : List ℕ) (ended : Bool) (wrote : List ℕ)
    → Answers words read ended wrote answer → IsMimeAnswer text read answer wrote
mime_of words text taken Usage read ended wrote says = absurd (let no : true ≡ false = says.0 (Mime text) taken in cc)
mime_of words text taken NoMemory read ended wrote says = untouched_of words (Mime text) read wrote taken (λ e. cc) says
mime_of words text taken (NotHar entry) read ended wrote says = said_of words (Mime text) read ended wrote (NotHar entry) taken says
mime_of words text taken HarLimit read ended wrote says = said_of words (Mime text) read ended wrote HarLimit taken says
mime_of words text taken Done read ended wrote says = said_of words (Mime text) read ended wrote Done taken says
mime_of words text taken (Bad kind place) read ended wrote says = said_of words (Mime text) read ended wrote (Bad kind place) taken says
mime_of words text taken (Cut place) read ended wrote says = said_of words (Mime text) read ended wrote (Cut place) taken says
mime_of words text taken (HeadLimit place) read ended wrote says = said_of words (Mime text) read ended wrote (HeadLimit place) taken says
mime_of words text taken (MediaFull place) read ended wrote says = said_of words (Mime text) read ended wrote (MediaFull place) taken says
mime_of words text taken Endless read ended wrote says = said_of words (Mime text) read ended wrote Endless taken says
mime_of words text taken ReadFault read ended wrote says = said_of words (Mime text) read ended wrote ReadFault taken says
mime_of words text taken WriteFault read ended wrote says = said_of words (Mime text) read ended wrote WriteFault taken says

pub trial_of : (words : List (List ℕ)) (seed count : ℕ) → IsTaken words (Trial seed count)
    → (answer : Outcome) (read : List ℕ) (ended : Bool) (wrote : List ℕ)
    → Answers words read ended wrote answer → IsTrialAnswer seed count read answer wrote
trial_of words seed count taken Usage read ended wrote says = absurd (let no : true ≡ false = says.0 (Trial seed count) taken in cc)
trial_of words seed count taken NoMemory read ended wrote says = untouched_of words (Trial seed count) read wrote taken (λ e. cc) says
trial_of words seed count taken (NotHar entry) read ended wrote says = said_of words (Trial seed count) read ended wrote (NotHar entry) taken says
trial_of words seed count taken HarLimit read ended wrote says = said_of words (Trial seed count) read ended wrote HarLimit taken says
trial_of words seed count taken Done read ended wrote says = said_of words (Trial seed count) read ended wrote Done taken says
trial_of words seed count taken (Bad kind place) read ended wrote says = said_of words (Trial seed count) read ended wrote (Bad kind place) taken says
trial_of words seed count taken (Cut place) read ended wrote says = said_of words (Trial seed count) read ended wrote (Cut place) taken says
trial_of words seed count taken (HeadLimit place) read ended wrote says = said_of words (Trial seed count) read ended wrote (HeadLimit place) taken says
trial_of words seed count taken (MediaFull place) read ended wrote says = said_of words (Trial seed count) read ended wrote (MediaFull place) taken says
trial_of words seed count taken Endless read ended wrote says = said_of words (Trial seed count) read ended wrote Endless taken says
trial_of words seed count taken ReadFault read ended wrote says = said_of words (Trial seed count) read ended wrote ReadFault taken says
trial_of words seed count taken WriteFault read ended wrote says = said_of words (Trial seed count) read ended wrote WriteFault taken says

pub har_of : (words : List (List ℕ)) → IsTaken words Har → (answer : Outcome) (read : List ℕ) (ended : Bool) (wrote : List ℕ)
    → Answers words read ended wrote answer → IsHarAnswer read ended wrote answer
har_of words taken Usage read ended wrote says = absurd (let no : true ≡ false = says.0 Har taken in cc)
har_of words taken NoMemory read ended wrote (inl none, nothing) = (omega (arith, ap length none), nothing)
har_of words taken NoMemory read ended wrote (inr log, nothing) = (log.1, nothing)
har_of words taken Done read ended wrote says = said_of words Har read ended wrote Done taken says
har_of words taken (Bad kind place) read ended wrote says = said_of words Har read ended wrote (Bad kind place) taken says
har_of words taken (Cut place) read ended wrote says = said_of words Har read ended wrote (Cut place) taken says
har_of words taken (HeadLimit place) read ended wrote says = said_of words Har read ended wrote (HeadLimit place) taken says
har_of words taken (MediaFull place) read ended wrote says = said_of words Har read ended wrote (MediaFull place) taken says
har_of words taken ReadFault read ended wrote says = said_of words Har read ended wrote ReadFault taken says
har_of words taken WriteFault read ended wrote says = said_of words Har read ended wrote WriteFault taken says
har_of words taken (NotHar entry) read ended wrote says = said_of words Har read ended wrote (NotHar entry) taken says
har_of words taken HarLimit read ended wrote says = said_of words Har read ended wrote HarLimit taken says
har_of words taken Endless read ended wrote says = said_of words Har read ended wrote Endless taken says

pub type_of : (words : List (List ℕ)) → IsTaken words ComputedType → (answer : Outcome) (read : List ℕ) (ended : Bool) (wrote : List ℕ)
    → Answers words read ended wrote answer → IsTypeAnswer read ended wrote answer
type_of words taken Usage read ended wrote says = absurd (let no : true ≡ false = says.0 ComputedType taken in cc)
type_of words taken NoMemory read ended wrote says = untouched_of words ComputedType read wrote taken (λ e. cc) says
type_of words taken Done read ended wrote says = said_of words ComputedType read ended wrote Done taken says
type_of words taken (Bad kind place) read ended wrote says = said_of words ComputedType read ended wrote (Bad kind place) taken says
type_of words taken (Cut place) read ended wrote says = said_of words ComputedType read ended wrote (Cut place) taken says
type_of words taken (HeadLimit place) read ended wrote says = said_of words ComputedType read ended wrote (HeadLimit place) taken says
type_of words taken (MediaFull place) read ended wrote says = said_of words ComputedType read ended wrote (MediaFull place) taken says
type_of words taken ReadFault read ended wrote says = said_of words ComputedType read ended wrote ReadFault taken says
type_of words taken WriteFault read ended wrote says = said_of words ComputedType read ended wrote WriteFault taken says
type_of words taken (NotHar entry) read ended wrote says = said_of words ComputedType read ended wrote (NotHar entry) taken says
type_of words taken HarLimit read ended wrote says = said_of words ComputedType read ended wrote HarLimit taken says
type_of words taken Endless read ended wrote says = said_of words ComputedType read ended wrote Endless taken says
