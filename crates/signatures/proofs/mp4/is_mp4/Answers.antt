use Rattle.std.proofs.Common.{rules}
use Rattle.std.proofs.lemmas.Bool.Decides.{Decides-at}
use Rattle.signatures.specs.Mp4.{is_mp4_window}
use Rattle.signatures.proofs.Mp4Lemmas.{mp4-Decides}
use Rattle.signatures.proofs.mp4.is_mp4.Goals as goal

pub returns-then-stands_at-2-clause-test : goal.returns-then-stands_at-2-clause-test
unfolding is_mp4_window
returns-then-stands_at-2-clause-test c = search rules

pub returns-else-stands_at-2-clause-test : goal.returns-else-stands_at-2-clause-test
unfolding is_mp4_window
returns-else-stands_at-2-clause-test c = search rules

pub returns-then-stands_at-2-clause-signature : goal.returns-then-stands_at-2-clause-signature
returns-then-stands_at-2-clause-signature c =
    Decides-at _ _ (returns-then-stands_at-2-clause-test c) (mp4-Decides c.args.window.now)

pub returns-else-stands_at-2-clause-signature : goal.returns-else-stands_at-2-clause-signature
returns-else-stands_at-2-clause-signature c =
    Decides-at _ _ (returns-else-stands_at-2-clause-test c) (mp4-Decides c.args.window.now)
