use Rattle.std.proofs.Common.{[], ℕ, List, refl, sym, subst}
use Rattle.orb_io.proofs.GivesLemmas.{Gives-none, Gives-of}
use Rattle.orb_cli.specs.MimeLine.{IsMimeLine}
use Rattle.orb_cli.proofs.mime_word.mime.Goals as goal

pub returns-in-Err-clause-wrote : goal.returns-in-Err-clause-wrote
returns-in-Err-clause-wrote g c = Gives-none _ [] _ (g.met.O.Sink.told_agrees c.args.output.now) (refl, refl)

pub returns-in-Ok-push_nonempty-clause-wrote : goal.returns-in-Ok-push_nonempty-clause-wrote
returns-in-Ok-push_nonempty-clause-wrote g c =
    let IsLine : List ℕ → Type 0 = λ line. IsMimeLine c.args.text.now line in
    Gives-of _ _ [] _ _ c.in-Ok-push_nonempty.ensures.puts.bytes
    (refl, subst IsLine (sym c.as_slice.ensures.value) c.in-Ok.ensures)

pub returns-clause-wrote : goal.returns-clause-wrote
returns-clause-wrote g c =
    let written = c.in-Err-push_nonempty.ensures.puts.bytes in
    let IsLine : List ℕ → Type 0 = λ line. IsMimeLine c.args.text.now line in
    Gives-of _ _ [] written.0 _ written.2
    (refl, c.as_slice.result.now, subst IsLine (sym c.as_slice.ensures.value) c.in-Ok.ensures, written.1)
