use Rattle.live_proxy.proofs.PrepareLemmas.{refused, prepared}
use Rattle.live_proxy.proofs.forwarding.prepare.Goals as goal

pub returns-in-Err : goal.returns-in-Err
returns-in-Err c =
    refused c.args.head.now c.in-Some.parts c.in-Err.refusal c.args.text.now.items c.in-Some.ensures.parts c.in-Err.ensures

pub returns-in-Ok-append_head : goal.returns-in-Ok-append_head
returns-in-Ok-append_head c =
    prepared c.args.head.now c.in-Some.parts c.in-Ok.target c.clear.new.self.items c.append_head.new.text.items
    c.in-Some.ensures.parts c.in-Ok.ensures c.clear.ensures.items c.in-Ok-append_head.ensures
