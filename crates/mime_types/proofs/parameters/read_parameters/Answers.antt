use Rattle.std.proofs.Common.{subst}
use Rattle.mime_types.specs.Stored.{pairs_in}
use Rattle.mime_types.proofs.KeepingLemmas.{KeepsFor, keeps_none, keeps_one, keeps_all}
use Rattle.mime_types.proofs.ReadingLemmas.{semicolon_first, nothing_at}
use Rattle.mime_types.proofs.parameters.read_parameters.Goals as goal

pub segments-init : goal.segments-init
segments-init c =
    (c.requires, rw c.new-kept.ensures.items (keeps_none c.args.text.now))

pub segments-preserved : goal.segments-preserved
segments-preserved c =
    let segment = c.in_ok-rest.ensures in
    let first = semicolon_first c.segments.rest.now c.in-Some.field-0-0.now c.in-Some.after.now c.segments.invariant.0 c.in-Some.ensures.cases.0 in (
      segment.1.begins,
      rw segment.2 (keeps_one c.args.text.now (pairs_in c.segments.kept.items) c.segments.rest.now segment.0 c.in_ok-rest.rest.now
          c.segments.invariant.1 (rw (← first) at segment.1)),
    )

pub returns : goal.returns
returns c =
    keeps_all c.args.text.now (pairs_in c.segments.kept.items)
    (subst (KeepsFor c.args.text.now (pairs_in c.segments.kept.items)) (nothing_at c.segments.rest.now c.in_default.ensures.cases) c.segments.invariant.1)
