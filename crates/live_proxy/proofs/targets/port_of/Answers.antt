use Rattle.std.proofs.Common.{◌≡◌, Some, None, sym, ap, ◌∙◌}
use Rattle.std.proofs.lemmas.Slice.Eq.{strip_prefix_is}
use Rattle.std.proofs.lemmas.Bool.Decides.{Decides-eqb}
use Rattle.http_uri.specs.Uri.{uri_authority}
use Rattle.live_proxy.proofs.TargetLemmas.{host_told, no_after, port_is, some_byte}
use Rattle.live_proxy.proofs.targets.port_of.Goals as goal

pub returns-in_err-strip_prefix : goal.returns-in_err-strip_prefix
returns-in_err-strip_prefix c =
    let authority = c.as_bytes-authority.result.now in
    let host = c.as_bytes-host.result.now in
    let is : uri_authority c.args.uri.now ≡ Some authority =
    sym c.in_ok-authority.ensures ∙ ap Some (sym (c.as_bytes-authority.ensures.value ∙ c.as_str.ensures.value)) in
    rw c.from_residual-in_err-strip_prefix.ensures
    (no_after c.args.uri.now authority host is
    (host_told c.args.uri.now authority host is (ap Some c.as_bytes-host.ensures.value ∙ c.in_ok-host.ensures.value))
    (strip_prefix_is Decides-eqb authority host None c.in_err-strip_prefix.ensures.cases))

pub returns : goal.returns
returns c =
    let authority = c.as_bytes-authority.result.now in
    let host = c.as_bytes-host.result.now in
    let after = c.in_ok-strip_prefix.field-0 in
    let is : uri_authority c.args.uri.now ≡ Some authority =
    sym c.in_ok-authority.ensures ∙ ap Some (sym (c.as_bytes-authority.ensures.value ∙ c.as_str.ensures.value)) in
    port_is c.args.uri.now authority host after.now c.port_after.result (c.is_http.ensures.0 c.if-not-is_http.false) is
    (host_told c.args.uri.now authority host is (ap Some c.as_bytes-host.ensures.value ∙ c.in_ok-host.ensures.value))
    (some_byte host c.is_empty.result c.is_empty.ensures c.if-is_empty.false)
    (strip_prefix_is Decides-eqb authority host (Some after) c.in_ok-strip_prefix.ensures.cases)
    c.port_after.ensures
