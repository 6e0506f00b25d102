use Rattle.std.proofs.Common.{rules}
use Rattle.std.proofs.lemmas.Bool.Decides.{Decides-at}
use Rattle.signatures.specs.Webm.{is_webm_window}
use Rattle.signatures.proofs.WebmLemmas.{webm-Decides}
use Rattle.signatures.proofs.webm.is_webm.Goals as goal

pub returns-then-stands_at-clause-test : goal.returns-then-stands_at-clause-test
unfolding is_webm_window
returns-then-stands_at-clause-test c = search rules

pub returns-then-stands_at-clause-signature : goal.returns-then-stands_at-clause-signature
returns-then-stands_at-clause-signature c =
    Decides-at _ _ (returns-then-stands_at-clause-test c) (webm-Decides c.args.window.now)
