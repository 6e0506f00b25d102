-- From what a run over a response answers to what the program does.
use Rattle.std.proofs.Common.{◌≡◌, ℕ, Bool, List, Option, refl, sym, ap, subst}
use Rattle.computed_type.specs.declared.outcome.TypeOutcome.{TypeOutcome}
use Rattle.computed_type.specs.declared.outcome.TypeOutcome.TheVariants.{Done, Bad, Cut, HeadLimit, Endless, ReadFault, WriteFault}
use Rattle.computed_type.specs.Answers.{TypeAnswers, Ran as RanTypes}
use Rattle.orb_cli.specs.declared.outcome.Outcome.{Outcome}
use Rattle.orb_cli.specs.Outcomes.{typed_outcome}
use Rattle.orb_cli.specs.Typed.{IsTypeAnswer}
use Rattle.orb_cli.specs.Answer.{Ran}

typed : (o : TypeOutcome) (read : List ℕ) (ended : Bool) (wrote : List ℕ) → TypeAnswers o read ended wrote
    → IsTypeAnswer read ended wrote (typed_outcome o)
typed Done read ended wrote says = says
typed (Bad kind) read ended wrote says = (refl, says)
typed Cut read ended wrote says = (refl, says)
typed HeadLimit read ended wrote says = (refl, says)
typed Endless read ended wrote says = says
typed ReadFault read ended wrote says = says
typed WriteFault read ended wrote says = says

pub Ran-typed : (o : TypeOutcome) (left left' : Option (List ℕ)) (answer : Outcome) (wrote : List ℕ)
    → answer ≡ typed_outcome o → RanTypes o left left' wrote → Ran IsTypeAnswer left left' answer wrote
Ran-typed o left left' answer wrote is ran =
    subst (λ x. Ran IsTypeAnswer left left' x wrote) (sym is) (record {
      read = ran.read;
      ended = ran.ended;
      lost = ran.lost;
      at_end = ran.at_end;
      fits = λ never. ran.fits (λ endless. never (ap typed_outcome endless));
      answers = typed o ran.read ran.ended wrote ran.answers;
    })
