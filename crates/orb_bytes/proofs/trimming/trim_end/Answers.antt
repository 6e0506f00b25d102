use Rattle.std.proofs.Common.{sym, ◌∙◌}
use Rattle.orb_bytes.specs.Bytes.{is_one_of}
use Rattle.orb_bytes.proofs.TrimLemmas.{without_trailing-inside, without_trailing-outside}
use Rattle.orb_bytes.proofs.trimming.trim_end.Goals as goal

pub trailing-preserved : goal.trailing-preserved
trailing-preserved c =
    let inside = sym c.contains.ensures.value ∙ c.if-contains.true in
    without_trailing-inside (is_one_of c.args.class.now) c.trailing.rest.now c.in-len1-up.len_at_least inside
    ∙ c.trailing.invariant

pub returns-else-contains : goal.returns-else-contains
returns-else-contains c =
    let outside = sym c.contains.ensures.value ∙ c.if-contains.false in
    sym (without_trailing-outside (is_one_of c.args.class.now) c.trailing.rest.now c.in-len1-up.len_at_least outside)
    ∙ c.trailing.invariant
