-- Where nothing fails, a response whose head isn't refused is answered `Done`.
use Rattle.std.proofs.Common.{◌≡◌, ℕ, ◌≤◌, List, [], ◌++◌, length, Option, None, Some, sym, ap, ◌∙◌, subst, arith}
use Rattle.std.proofs.lemmas.List.{append-nil, length-append}
use Rattle.orb_io.specs.Told.{Rose}
use Rattle.orb_io.specs.declared.pulling.TheConstants.{MOST_OF_A_RUN}
use Rattle.http_exchange.specs.HeadTexts.{IsOpenHead}
use Rattle.computed_type.specs.Inputs.{IsBegun}
use Rattle.computed_type.specs.Answers.{HasLine}
use Rattle.computed_type.proofs.AnswerLemmas.{refused_or_begun, long_or_begun, open_or_line, one_line, refused_longer, long_longer}
use Rattle.orb_cli.specs.declared.outcome.Outcome.{Outcome}
use Rattle.orb_cli.specs.declared.outcome.Outcome.TheVariants.{Done, Usage, Bad, Cut, HeadLimit, MediaFull, Endless, ReadFault, WriteFault, NoMemory, NotHar, HarLimit}
use Rattle.orb_cli.specs.Answer.{Ran, HasCauses}
use Rattle.orb_cli.specs.Complete.{IsCompleteType}
use Rattle.orb_cli.specs.Typed.{IsTypeAnswer}

-- where nothing is left, all was read
all_read : (bytes read rest : List ℕ) → bytes ≡ read ++ rest → rest ≡ [] → read ≡ bytes
all_read bytes read rest lost none = sym (lost ∙ ap (λ l. read ++ l) none ∙ append-nil read)

pub complete_type : (bytes line : List ℕ) (left' : Option (List ℕ)) (wrote : List ℕ) (source source' sink sink' : ℕ) (answer : Outcome)
    → HasLine bytes (λ l. l ≡ line) → length bytes ≤ MOST_OF_A_RUN → Ran IsTypeAnswer (Some bytes) left' answer wrote
    → HasCauses source source' sink sink' answer → ¬ (Rose source source') → ¬ (Rose sink sink')
    → IsCompleteType bytes line left' wrote answer
complete_type bytes line None wrote m m' n n' answer has fits ran causes calm calm' = absurd ran.lost
complete_type bytes line (Some rest) wrote m m' n n' Done has fits ran causes calm calm' =
    let none : rest ≡ [] = ran.at_end ran.answers.0 in
    let says = subst (λ (l : List ℕ). HasLine l (λ x. wrote ≡ x)) (all_read bytes ran.read rest ran.lost none) ran.answers.1 in
    (ap Some none, says.holds ∙ one_line bytes (λ x. wrote ≡ x) (λ x. x ≡ line) says has ∙ has.holds)
complete_type bytes line (Some rest) wrote m m' n n' (Bad kind place) has fits ran causes calm calm' =
    let longer = refused_longer ran.read rest kind ran.answers.1.0 in
    refused_or_begun (ran.read ++ rest) kind has.fields has.body longer
    (subst (λ (l : List ℕ). IsBegun l has.fields has.body) ran.lost has.begun)
complete_type bytes line (Some rest) wrote m m' n n' (Cut place) has fits ran causes calm calm' =
    let none : rest ≡ [] = ran.at_end ran.answers.1.0 in
    open_or_line bytes (λ l. l ≡ line)
    (subst IsOpenHead (all_read bytes ran.read rest ran.lost none) ran.answers.1.1) has
complete_type bytes line (Some rest) wrote m m' n n' (HeadLimit place) has fits ran causes calm calm' =
    let longer = long_longer ran.read rest ran.answers.1.0 in
    long_or_begun (ran.read ++ rest) has.fields has.body longer
    (subst (λ (l : List ℕ). IsBegun l has.fields has.body) ran.lost has.begun)
complete_type bytes line (Some rest) wrote m m' n n' Endless has fits ran causes calm calm' =
    omega (arith, fits, ap length ran.lost, length-append ran.read rest, ran.answers.0)
complete_type bytes line (Some rest) wrote m m' n n' ReadFault has fits ran causes calm calm' = calm causes.0
complete_type bytes line (Some rest) wrote m m' n n' WriteFault has fits ran causes calm calm' = calm' causes.1
complete_type bytes line (Some rest) wrote m m' n n' NoMemory has fits ran causes calm calm' =
    let same : bytes ≡ rest = ran.lost ∙ ap (λ l. l ++ rest) ran.answers.0 in
    (ap Some (sym same), ran.answers.1)
complete_type bytes line (Some rest) wrote m m' n n' (MediaFull place) has fits ran causes calm calm' = ran.answers
complete_type bytes line (Some rest) wrote m m' n n' Usage has fits ran causes calm calm' = ran.answers
complete_type bytes line (Some rest) wrote m m' n n' (NotHar entry) has fits ran causes calm calm' = ran.answers
complete_type bytes line (Some rest) wrote m m' n n' HarLimit has fits ran causes calm calm' = ran.answers
