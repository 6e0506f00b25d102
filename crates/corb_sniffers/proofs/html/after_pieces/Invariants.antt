use Rattle.std.proofs.Common.{length}
use Rattle.corb_sniffers.specs.HtmlReading.{SniffsAlike, IsNoSpace}
use Rattle.corb_sniffers.proofs.html.after_pieces.Given as goal

abbrev pub invariant-comments : goal.invariant-comments
invariant-comments l = record { alike : SniffsAlike l.window l.rest; no_space : IsNoSpace l.rest }

abbrev pub decreases-comments : goal.decreases-comments
decreases-comments l = length l.rest
