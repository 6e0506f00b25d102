use Rattle.std.proofs.Common.{sym, ◌∙◌}
use Rattle.orb_bytes.specs.Bytes.{is_one_of}
use Rattle.orb_bytes.proofs.TrimLemmas.{without_leading-outside}
use Rattle.orb_bytes.proofs.trimming.trim_start.Goals as goal

pub returns-else-contains : goal.returns-else-contains
returns-else-contains c =
    let outside = sym c.contains.ensures.value ∙ c.if-contains.false in
    sym (without_leading-outside (is_one_of c.args.class.now) c.leading.rest.now c.in-len1-up.len_at_least outside)
    ∙ c.leading.invariant
