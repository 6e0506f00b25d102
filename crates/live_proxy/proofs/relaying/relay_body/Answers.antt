use Rattle.std.proofs.Common.{Result, Ok, Err, refl, arith, ◌++◌}
use Rattle.orb_io.proofs.GivesLemmas.{Gives-weaker, Gives-then, Delivers-as}
use Rattle.body_filter.specs.declared.pushing.WriteFault.{WriteFault}
use Rattle.response_rules.specs.declared.verdicts.Verdict.{Verdict}
use Rattle.response_rules.specs.Reads.{IsVerdict}
use Rattle.live_proxy.specs.Responses.{response_in, judged_in}
use Rattle.live_proxy.proofs.RelayLemmas.{ended-well, ended-fails}
use Rattle.live_proxy.proofs.PullLemmas.{pulled-none, pulled-says}
use Rattle.live_proxy.proofs.relaying.relay_body.Goals as goal

pub pass-requires : goal.pass-requires
pass-requires g c =
    let (x, bytes, given, h, is) = c.requires.can in
    (x, bytes, given, rw c.split_at.ensures.back h)

pub returns-in-Err-clause-relays : goal.returns-in-Err-clause-relays
returns-in-Err-clause-relays g c = λ x bytes given h is.
    Gives-weaker _ _ given _ _ (λ more stops. pulled-none _ _ bytes _ _ (omega (arith, is, c.requires.few)) stops)
    (c.in-Err.ensures.acts.tells x bytes given (rw c.split_at.ensures.back h))

pub pump-requires-clause-can : goal.pump-requires-clause-can
pump-requires-clause-can g c =
    let (x, bytes, given, h, is) = c.requires.can in
    let passed = c.in-Ok.ensures.acts.tells x bytes given (rw c.split_at.ensures.back h) in
    (x, bytes, given ++ passed.more, passed.holds, is)

pub returns-in-Err-pump-clause-relays : goal.returns-in-Err-pump-clause-relays
returns-in-Err-pump-clause-relays g c = λ x bytes given h is.
    Gives-then _ _ _ given _ _ (c.in-Ok.ensures.acts.tells x bytes given (rw c.split_at.ensures.back h)) (λ more passed.
    Gives-weaker _ _ (given ++ more) _ _ (λ further p. pulled-says _ _ _ _ bytes _ _ _ _ p refl p.says)
    (c.in-Err-pump.ensures.pumps x bytes (given ++ more) passed is))

pub end-requires : goal.end-requires
end-requires g c =
    let (x, bytes, given, h, is) = c.requires.can in
    let passed = c.in-Ok.ensures.acts.tells x bytes given (rw c.split_at.ensures.back h) in
    let w = (c.in-Ok-pump.ensures.pumps x bytes (given ++ passed.more) passed.holds is).holds.says in
    record { x = response_in x w.text; m = w.body; reads = w.filter }

pub returns-in-Ok-end-clause-relays : goal.returns-in-Ok-end-clause-relays
returns-in-Ok-end-clause-relays g c = λ x bytes given h is.
    let put : Result Verdict WriteFault = Ok c.in-Ok-end.verdict in
    Gives-then _ _ _ given _ _ (c.in-Ok.ensures.acts.tells x bytes given (rw c.split_at.ensures.back h)) (λ more passed.
    Gives-then _ _ _ (given ++ more) _ _ (c.in-Ok-pump.ensures.pumps x bytes (given ++ more) passed is) (λ further p.
    let w = p.says in
    let is_verdict : Verdict → Type 0 = IsVerdict (judged_in x w.text) w.body in
    Gives-weaker _ _ ((given ++ more) ++ further) _ _
    (λ last owes. pulled-says _ _ _ _ bytes _ _ _ _ p refl (ended-well x _ _ _ _ _ w c.in-Ok-end.verdict owes.0 owes.1))
    (Delivers-as _ _ put _ ((given ++ more) ++ further) _ _ is_verdict is_verdict w.gave refl (λ _ v. v)
    (c.in-Ok-end.ensures.calls.tells (response_in x w.text) w.body w.filter))))

pub returns-in-Err-end-clause-relays : goal.returns-in-Err-end-clause-relays
returns-in-Err-end-clause-relays g c = λ x bytes given h is.
    let put : Result Verdict WriteFault = Err c.in-Err-end.field-0 in
    Gives-then _ _ _ given _ _ (c.in-Ok.ensures.acts.tells x bytes given (rw c.split_at.ensures.back h)) (λ more passed.
    Gives-then _ _ _ (given ++ more) _ _ (c.in-Ok-pump.ensures.pumps x bytes (given ++ more) passed is) (λ further p.
    let w = p.says in
    let is_verdict : Verdict → Type 0 = IsVerdict (judged_in x w.text) w.body in
    Gives-weaker _ _ ((given ++ more) ++ further) _ _
    (λ last within. pulled-says _ _ _ _ bytes _ _ _ _ p refl (ended-fails x _ _ _ _ _ w within))
    (Delivers-as _ _ put _ ((given ++ more) ++ further) _ _ is_verdict is_verdict w.gave refl (λ _ v. v)
    (c.in-Err-end.ensures.calls.tells (response_in x w.text) w.body w.filter))))
