use Rattle.std.proofs.Common.{rules}
use Rattle.std.proofs.lemmas.Bool.Decides.{Decides-at}
use Rattle.signatures.specs.Mpeg.{is_mpeg_window}
use Rattle.signatures.proofs.MpegLemmas.{mpeg-Decides}
use Rattle.signatures.proofs.mp3.is_mp3.Goals as goal

pub returns-in-len3-up-clause-test : goal.returns-in-len3-up-clause-test
unfolding is_mpeg_window
returns-in-len3-up-clause-test c = search rules

pub returns-in-len3-up-clause-signature : goal.returns-in-len3-up-clause-signature
returns-in-len3-up-clause-signature c =
    Decides-at _ _ (returns-in-len3-up-clause-test c) (mpeg-Decides c.args.window.now)
