use Rattle.std.proofs.Common.{◌≡◌, ℕ, ◌-◌, List, length, drop, map, ap, ◌∙◌}
use Rattle.std.specs.Char.{to_ascii_lowercase}
use Rattle.std.proofs.lemmas.List.{drop-map, length-map}
use Rattle.orb_bytes.specs.Fields.{same_name}
use Rattle.mime_types.specs.Sets.{ends_in}
use Rattle.mime_types.proofs.groups.ends_in_ignoring_case.Goals as goal

-- lowering and cutting commute
ends_in-lower : (text suffix : List ℕ) →
    same_name (drop (length text - length suffix) text) suffix
    ≡ ends_in (map to_ascii_lowercase suffix) (map to_ascii_lowercase text)
ends_in-lower text suffix =
    simp (length-map, drop-map)

pub returns : goal.returns
returns c =
    c.eq_ignore_case.ensures ∙ ap (λ end. same_name end c.args.suffix.now) (c.split_at.ensures.back ∙ ap (λ n. drop n c.args.text.now) c.saturating_sub-start.ensures)
    ∙ ends_in-lower c.args.text.now c.args.suffix.now
