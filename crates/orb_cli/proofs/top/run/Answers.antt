use Rattle.std.proofs.Common.{[], inl, refl, map, string_bytes}
use Rattle.orb_io.proofs.GivesLemmas.{Gives-none, Gives-weaker}
use Rattle.orb_cli.specs.declared.outcome.Outcome.TheVariants.{NoMemory}
use Rattle.orb_cli.specs.Answer.{Answers}
use Rattle.orb_cli.specs.Har.{IsHarAnswer}
use Rattle.orb_cli.specs.Typed.{IsTypeAnswer}
use Rattle.orb_cli.proofs.WordLemmas.{Ran-as, Ran-unread, har_words, mime_words, trial_words, type_words}
use Rattle.orb_cli.proofs.top.run.Goals as goal

pub returns-in-Mime-clause-ran : goal.returns-in-Mime-clause-ran
returns-in-Mime-clause-ran g c =
    let words = map string_bytes c.args.words.now in
    let taken = rw c.in-Mime.is at c.in-Ok.ensures.taken in
    Gives-weaker _ _ [] _ _ (λ wrote says.
    Ran-unread _ (g.I.Source.left c.args.input.now) c.mime.result wrote
    (mime_words words c.in-Mime.text.now taken c.mime.result [] _ wrote says))
    c.mime.ensures.wrote

pub returns-in-Mime-clause-causes : goal.returns-in-Mime-clause-causes
returns-in-Mime-clause-causes g c = c.mime.ensures.causes (g.I.Source.faults c.args.input.now)

pub returns-in-Trial-clause-ran : goal.returns-in-Trial-clause-ran
returns-in-Trial-clause-ran g c =
    let words = map string_bytes c.args.words.now in
    let taken = rw c.in-Trial.is at c.in-Ok.ensures.taken in
    Gives-weaker _ _ [] _ _ (λ wrote says.
    Ran-unread _ (g.I.Source.left c.args.input.now) c.trial.result wrote
    (trial_words words c.in-Trial.seed c.in-Trial.count taken c.trial.result [] _ wrote says))
    c.trial.ensures.wrote

pub returns-in-Trial-clause-causes : goal.returns-in-Trial-clause-causes
returns-in-Trial-clause-causes g c = c.trial.ensures.causes (g.I.Source.faults c.args.input.now)

pub returns-in-Har-clause-ran : goal.returns-in-Har-clause-ran
returns-in-Har-clause-ran g c =
    let words = map string_bytes c.args.words.now in
    let taken = rw c.in-Har.is at c.in-Ok.ensures.taken in
    Gives-weaker _ _ [] _ _ (λ wrote ran.
    Ran-as IsHarAnswer (Answers words) _ _ c.har.result wrote
    (λ read ended. har_words words taken c.har.result read ended wrote) ran)
    c.har.ensures.ran

pub returns-in-Type-clause-ran : goal.returns-in-Type-clause-ran
returns-in-Type-clause-ran g c =
    let words = map string_bytes c.args.words.now in
    let taken = rw c.in-Type.is at c.in-Ok.ensures.taken in
    Gives-weaker _ _ [] _ _ (λ wrote ran.
    Ran-as IsTypeAnswer (Answers words) _ _ c.tell_type.result wrote
    (λ read ended. type_words words taken c.tell_type.result read ended wrote) ran)
    c.tell_type.ensures.ran

pub returns-in-Err-NoMemory-clause-ran : goal.returns-in-Err-NoMemory-clause-ran
returns-in-Err-NoMemory-clause-ran g c =
    Gives-none _ [] _ (g.met.O.Sink.told_agrees c.args.output.now)
    (Ran-unread (Answers (map string_bytes c.args.words.now)) (g.I.Source.left c.args.input.now) NoMemory [] (inl refl, refl))
