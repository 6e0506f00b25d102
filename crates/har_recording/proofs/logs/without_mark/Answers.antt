-- U+FEFF is these three bytes.
use Rattle.std.proofs.Common.{arith}
use Rattle.std.specs.Char.{encode_utf8}
use Rattle.std.proofs.lemmas.Grind.{common_steps}
use Rattle.har_recording.proofs.logs.without_mark.Goals as goal

pub returns-then-starts_with : goal.returns-then-starts_with
unfolding encode_utf8
returns-then-starts_with c = grind (arith, common_steps)

pub returns-else-starts_with : goal.returns-else-starts_with
unfolding encode_utf8
returns-else-starts_with c = grind (arith, common_steps)
