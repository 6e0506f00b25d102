use Rattle.std.proofs.Common.{◌≡◌, map, take}
use Rattle.http_exchange.specs.Spans.{field_span}
use Rattle.http_exchange.proofs.spans.keep.Given as goal

abbrev pub invariant-loop-span : goal.invariant-loop-span
invariant-loop-span g l = l.spans.items ≡ map field_span (take l.span-index l.found)
