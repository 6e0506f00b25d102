-- Connections, one after the other.
use Rattle.std.proofs.Common.{◌≡◌, ℕ, ◌+◌, List, [], ◌∷◌, ◌++◌, length, Option, None, Some, Result, Ok, sym, ap, ◌∙◌, subst, arith, append_assoc, length-append}
use Rattle.std.proofs.lemmas.List.{append-nil}
use Rattle.orb_io.specs.Told.{Told, Gains, Pushes, Rose}
use Rattle.orb_io.specs.declared.outside.Failed.{Failed}
use Rattle.orb_io.specs.Listeners.{HandsOut}
use Rattle.orb_io.proofs.ToldLemmas.{Pushes-after}
use Rattle.orb_engine.specs.declared.outcome.EngineOutcome.{EngineOutcome}
use Rattle.orb_engine.specs.declared.outcome.EngineOutcome.TheVariants as engine
use Rattle.orb_engine.specs.Runs.{RunCauses}
use Rattle.orb_cli.specs.Answer.{HasCauses}
use Rattle.orb_cli.specs.declared.outcome.ServeOutcome.{ServeOutcome}
use Rattle.orb_cli.specs.declared.outcome.ServeOutcome.TheVariants.{Done, Usage, BindFault, AcceptFault, WriteFault, NoMemory}
use Rattle.orb_cli.specs.Outcomes.{outcome_of}
use Rattle.command_line.specs.Taken.{Text, Asked, Serve, IsTaken}
use Rattle.command_line.proofs.TakenLemmas.{one_asked}
use Rattle.orb_cli.specs.ServeWords.{AsksToServe, IsServeAnswer}
use Rattle.orb_cli.specs.Serving.{log_line, log_lines, status_in_log, RoseBy, Serves, Served, HasServeCauses, IsAllServed}

-- the lines of some connections and of one more
lines_more : {A : Type 0} (status : A → ℕ) (number : ℕ) (outcomes : List A) (o : A)
    → log_lines status number (outcomes ++ (o ∷ [])) ≡ log_lines status number outcomes ++ log_line (number + length outcomes) (status o)
lines_more status number [] o =
    let same : number ≡ number + 0 = omega arith in
    append-nil (log_line number (status o)) ∙ ap (λ n. log_line n (status o)) same
lines_more status number (p ∷ outcomes) o =
    let next : number + 1 + length outcomes ≡ number + length (p ∷ outcomes) = omega arith in
    ap (λ t. log_line number (status p) ++ t) (lines_more status (number + 1) outcomes o)
    ∙ sym (append_assoc (log_line number (status p)) (log_lines status (number + 1) outcomes) (log_line (number + 1 + length outcomes) (status o)))
    ∙ ap (λ n. (log_line number (status p) ++ log_lines status (number + 1) outcomes) ++ log_line n (status o)) next

RoseBy-more : {T : Type 0} (h h' h'' : Option ℕ) (n : ℕ) (link : T) → RoseBy h h' n
    → HandsOut {T = T} {E = Failed} h' h'' (Ok link) → RoseBy h h'' (n + 1)
RoseBy-more None None None n link rose one = tt
RoseBy-more None None (Some c) n link rose one = absurd one
RoseBy-more None (Some b) c n link rose one = absurd rose
RoseBy-more (Some a) None c n link rose one = absurd rose
RoseBy-more (Some a) (Some b) None n link rose one = absurd one
RoseBy-more (Some a) (Some b) (Some c) n link rose one = omega (arith, rose, one)

-- the engine's causes, as those of the program
pub causes-run : (o : EngineOutcome) (source source' sink sink' : ℕ) → RunCauses o source source' sink sink'
    → HasCauses source source' sink sink' (outcome_of o)
causes-run engine.Done source source' sink sink' h = h
causes-run (engine.Bad kind place) source source' sink sink' h = h
causes-run (engine.Cut place) source source' sink sink' h = h
causes-run (engine.HeadLimit place) source source' sink sink' h = h
causes-run (engine.MediaFull place) source source' sink sink' h = h
causes-run engine.Endless source source' sink sink' h = h
causes-run engine.ReadFault source source' sink sink' h = h
causes-run engine.WriteFault source source' sink sink' h = h

-- one more was handed out, served and given back, and its line was pushed
pub Serves-pushed : {A T U E : Type 0} (status : A → ℕ) (h h' h'' h''' : Option ℕ) (n : ℕ) (link : T) (o : A) (r : Result U E)
    (a b c : Told) → Serves status h h' n (Gains a b) → HandsOut {T = T} {E = Failed} h' h'' (Ok link) → h''' ≡ h''
    → Pushes r b c (log_line (n + 1) (status o)) → Serves status h h''' (n + 1) (Pushes r a c)
Serves-pushed status h h' h'' h''' n link o r a b c serves one back pushes =
    let number : 1 + length serves.outcomes ≡ n + 1 = omega (arith, serves.each) in
    record {
      outcomes = serves.outcomes ++ (o ∷ []);
      each = length-append serves.outcomes (o ∷ []) ∙ ap (λ k. k + 1) serves.each;
      handed = subst (λ (k : Option ℕ). RoseBy h k (n + 1)) (sym back) (RoseBy-more h h' h'' n link serves.handed one);
      logged = subst (λ (t : List ℕ). Pushes r a c t)
          (ap (λ k. log_lines status 1 serves.outcomes ++ log_line k (status o)) (sym number) ∙ sym (lines_more status 1 serves.outcomes o))
          (Pushes-after a b c r (log_lines status 1 serves.outcomes) (log_line (n + 1) (status o)) serves.logged pushes);
    }

-- words that ask for connections ask for one number of them
one_count : (words : List Text) (address : Text) (count : ℕ) (P : ℕ → Type 0) → IsTaken words (Serve address count)
    → AsksToServe Serve words P → P count
one_count words address count P taken asks =
    subst P (ap count_of (one_asked words (Serve asks.address asks.count) (Serve address count) asks.taken taken)) asks.done
  where
    count_of : Asked → ℕ
    count_of (Serve address count) = count
    count_of asked = 0

pub all_served : (words : List Text) (address : Text) (count : ℕ) (handed handed' : Option ℕ) (put put' : Told)
    (b b' a a' l l' : ℕ) (answer : ServeOutcome) → IsTaken words (Serve address count)
    → IsServeAnswer Serve status_in_log words handed handed' put put' answer → HasServeCauses b b' a a' l l' answer
    → ¬ (Rose b b') → ¬ (Rose a a') → ¬ (Rose l l') → IsAllServed status_in_log count handed handed' put put' answer
all_served words address count h h' p p' b b' a a' l l' Done taken says causes calm calm' calm'' =
    one_count words address count (λ n. Served status_in_log n h h' p p' Done) taken says
all_served words address count h h' p p' b b' a a' l l' NoMemory taken says causes calm calm' calm'' = says
all_served words address count h h' p p' b b' a a' l l' Usage taken says causes calm calm' calm'' = says.0 address count taken
all_served words address count h h' p p' b b' a a' l l' BindFault taken says causes calm calm' calm'' = calm causes.0
all_served words address count h h' p p' b b' a a' l l' AcceptFault taken says causes calm calm' calm'' = calm' causes.1
all_served words address count h h' p p' b b' a a' l l' WriteFault taken says causes calm calm' calm'' = calm'' causes.2
