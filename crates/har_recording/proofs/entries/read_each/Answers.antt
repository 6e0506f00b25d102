use Rattle.std.proofs.Common.{◌<◌, ◌∷◌, [], length, arith, ap, ◌∙◌, sym}
use Rattle.std.proofs.lemmas.List.{map-append, drop_all}
use Rattle.serde_json.specs.View.{view, items_view}
use Rattle.har_recording.specs.Log.{all_of, header_of}
use Rattle.har_recording.specs.Seen.{header_in, headers_in}
use Rattle.har_recording.proofs.LeftLemmas.{next_of}
use Rattle.har_recording.proofs.EachLemmas.{after, none_before, none_left, item_read, item_refused}
use Rattle.har_recording.proofs.entries.read_each.Goals as goal

pub headers-init : goal.headers-init
headers-init c = rw c.new-read.ensures.items (none_before _)

pub returns-in-None : goal.returns-in-None
returns-in-None c =
    let h : c.headers.value-index < length c.args.headers.now = omega arith in
    item_refused header_of view _ _ c.value-item.result _ _ c.headers.invariant
    (next_of c.args.headers.now c.headers.value-index c.value-item.result h c.value-item.is) (sym c.in-None.ensures)

pub headers-preserved : goal.headers-preserved
headers-preserved c =
    let h : c.headers.value-index < length c.args.headers.now = omega arith in
    rw (c.in_ok-push-in-Some.ensures.items, map-append header_in c.headers.read.items (c.in-Some.header ∷ []))
    (item_read header_of view _ _ c.value-item.result (header_in c.in-Some.header) _ _ c.headers.invariant
    (next_of c.args.headers.now c.headers.value-index c.value-item.result h c.value-item.is) (sym c.in-Some.ensures))

pub returns : goal.returns
returns c =
    c.headers.invariant
    ∙ ap (λ left. after (headers_in c.headers.read.items) (all_of header_of (items_view left)))
    (drop_all c.headers.value-index c.args.headers.now c.headers-test.false)
    ∙ none_left (headers_in c.headers.read.items)
