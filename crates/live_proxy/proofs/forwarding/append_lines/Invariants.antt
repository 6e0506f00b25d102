use Rattle.std.proofs.Common.{◌≡◌, ◌++◌, take}
use Rattle.header_values.specs.Fields.{pairs_of}
use Rattle.live_proxy.specs.Requests.{lines_of}
use Rattle.live_proxy.proofs.forwarding.append_lines.Given as goal

abbrev pub invariant-loop-span : goal.invariant-loop-span
invariant-loop-span l =
    l.text.items ≡ l.initial.text.items ++ lines_of (pairs_of l.fields.head.now (take l.span-index l.span-items))
