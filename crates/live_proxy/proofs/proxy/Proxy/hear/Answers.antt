use Rattle.std.proofs.Common.{refl, ◌∙◌, subst}
use Rattle.live_proxy.specs.Requests.{HasBadTarget}
use Rattle.live_proxy.specs.Forwarding.{IsPrepared}
use Rattle.live_proxy.proofs.HearLemmas.{misdirected, full, takes}
use Rattle.live_proxy.proofs.proxy.Proxy.hear.Goals as goal

pub returns-in-Err-BadTarget-clause-hears : goal.returns-in-Err-BadTarget-clause-hears
returns-in-Err-BadTarget-clause-hears c =
    misdirected c.args.self.now.head c.in-Ok.asks c.requires.text c.in-Ok.ensures.reads
    (subst (λ h. HasBadTarget h) (c.as_slice.ensures.value ∙ c.request.ensures.same)
    (rw c.in-Err-BadTarget.field-0-is at c.in-Err-BadTarget.ensures))

pub returns-in-Ok-enter-clause-hears : goal.returns-in-Ok-enter-clause-hears
returns-in-Ok-enter-clause-hears c =
    takes _ _ c.args.self.now.head c.in-Ok.asks c.in-Ok-enter.state c.in-Ok-prepare.target c.prepare.new.text.items
    c.requires.text c.in-Ok.ensures.reads
    (subst (λ h. IsPrepared h c.in-Ok-prepare.target c.prepare.new.text.items) (c.as_slice.ensures.value ∙ c.request.ensures.same)
    c.in-Ok-prepare.ensures)
    c.in-Ok-enter.ensures c.request.ensures.same refl refl

pub returns-in-Err-enter-clause-hears : goal.returns-in-Err-enter-clause-hears
returns-in-Err-enter-clause-hears c =
    full _ _ c.args.self.now.head c.in-Ok.asks c.in-Ok-prepare.target c.prepare.new.text.items c.in-Err-enter.field-0
    c.requires.text c.in-Ok.ensures.reads
    (subst (λ h. IsPrepared h c.in-Ok-prepare.target c.prepare.new.text.items) (c.as_slice.ensures.value ∙ c.request.ensures.same)
    c.in-Ok-prepare.ensures)
    c.in-Err-enter.ensures
