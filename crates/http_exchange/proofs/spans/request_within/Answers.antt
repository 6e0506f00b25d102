use Rattle.std.proofs.Common.{◌≡◌, ◌≤◌, ℕ, List, [], ◌++◌, length, take, drop, ap, ◌∙◌, arith}
use Rattle.std.proofs.lemmas.List.{drop_all, length-map, length-take}
use Rattle.httparse.specs.Grammar.{RequestHead, print_request}
use Rattle.httparse.specs.Spans.{header_bytes, name_and_value}
use Rattle.http_exchange.proofs.HeadSpans.{HasFields-found, length-request}
use Rattle.http_exchange.proofs.spans.request_within.Goals as goal

pub returns-clause-found : goal.returns-clause-found
returns-clause-found g c =
    let head = c.args.head.now in
    let found = take c.in-Ok-Complete.request.headers c.parse_request.new.headers in
    let within = rw c.in-Ok-Complete.field-0-is at c.in-Ok-Complete.ensures.within in
    let complete = rw c.in-Ok-Complete.field-0-is at c.in-Ok-Complete.ensures.complete in
    let h : RequestHead = complete.0 in
    let parsed = complete.1 in
    let rest : drop c.in-Ok-Complete.request.len head ≡ [] = drop_all c.in-Ok-Complete.request.len head (omega arith) in
    let whole : head ≡ print_request h ++ [] = parsed.reads.1 ∙ ap (λ (t : List ℕ). print_request h ++ t) rest in
    let few : length h.fields ≤ 128 =
    omega (
      arith,
      ap length parsed.fields,
      length-map found (header_bytes head),
      length-map h.fields name_and_value,
      length-take c.in-Ok-Complete.request.headers c.parse_request.new.headers,
    ) in (
      h,
      ((parsed.reads.0, whole), few),
      record { method = c.of.ensures ∙ parsed.method; target = c.of-2.ensures ∙ parsed.path },
      rw c.keep.ensures (HasFields-found head c.in-Ok-Complete.request.len found h.fields h.last
          within.section.len_fits within.section.headers_fit parsed.fields parsed.reads.0.fields (length-request head h whole)),
    )
