use Rattle.std.proofs.Common.{refl}
use Rattle.command_line.specs.Taken.{Proxy}
use Rattle.orb_cli.proofs.serve_words.proxy.Goals as goal

pub returns-in-Err-Usage-clause-served : goal.returns-in-Err-Usage-clause-served
returns-in-Err-Usage-clause-served g c =
    let refused = rw c.in-Err-Usage.field-0-is at c.in-Err-Usage.ensures.usage in
    (λ address count taken. refused refl (Proxy address count) taken, (refl, refl))
