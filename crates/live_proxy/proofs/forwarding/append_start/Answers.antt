use Rattle.std.proofs.Common.{◌≡◌, sym, ◌∙◌}
use Rattle.live_proxy.proofs.LineLemmas.{OnOk-weaker, start_is, same_text}
use Rattle.live_proxy.proofs.forwarding.append_start.Goals as goal

pub returns : goal.returns
returns c = λ t is.
    let authority : c.as_bytes.result.now ≡ t.authority =
    c.as_bytes.ensures.value ∙ c.as_str.ensures.value ∙ same_text _ _ (c.in-Some.ensures ∙ is.authority) in
    OnOk-weaker c.append-5.result _ _
    (λ last. start_is c.args.text.now.items _ _ _ _ _ _ c.args.method.now c.path_of.result.now t
    c.in_ok-append.ensures c.in_ok-append-2.ensures c.in_ok-append_path.ensures (c.path_of.ensures ∙ sym is.path)
    c.in_ok-append-3.ensures (rw authority at c.in_ok-append-4.ensures) last)
    c.append-5.ensures
