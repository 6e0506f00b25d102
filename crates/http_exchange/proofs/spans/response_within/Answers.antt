use Rattle.std.proofs.Common.{◌≡◌, ◌≤◌, ℕ, List, [], ◌++◌, length, take, drop, ap, ◌∙◌, arith}
use Rattle.std.proofs.lemmas.List.{drop_all, length-map, length-take}
use Rattle.httparse.specs.Grammar.{ResponseHead, print_response}
use Rattle.httparse.specs.Spans.{header_bytes, name_and_value}
use Rattle.http_exchange.proofs.HeadSpans.{HasFields-found, length-response}
use Rattle.http_exchange.proofs.spans.response_within.Goals as goal

pub returns-clause-found : goal.returns-clause-found
returns-clause-found c =
    let head = c.args.head.now in
    let found = take c.in-Ok-Complete.response.headers c.parse_response.new.headers in
    let within = rw c.in-Ok-Complete.field-0-is at c.in-Ok-Complete.ensures.within in
    let complete = rw c.in-Ok-Complete.field-0-is at c.in-Ok-Complete.ensures.complete in
    let h : ResponseHead = complete.0 in
    let parsed = complete.1 in
    let rest : drop c.in-Ok-Complete.response.len head ≡ [] = drop_all c.in-Ok-Complete.response.len head (omega arith) in
    let whole : head ≡ print_response h ++ [] = parsed.reads.1 ∙ ap (λ (t : List ℕ). print_response h ++ t) rest in
    let few : length h.fields ≤ 128 =
    omega (
      arith,
      ap length parsed.fields,
      length-map found (header_bytes head),
      length-map h.fields name_and_value,
      length-take c.in-Ok-Complete.response.headers c.parse_response.new.headers,
    ) in (
      h,
      ((parsed.reads.0, whole), few),
      parsed.code,
      rw c.keep.ensures (HasFields-found head c.in-Ok-Complete.response.len found h.fields h.last
          within.section.len_fits within.section.headers_fit parsed.fields parsed.reads.0.fields (length-response head h whole)),
    )
