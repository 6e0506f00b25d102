use Rattle.std.proofs.Common.{◌≡◌, List, ℕ, Some, option_map, sym, ap, ◌∙◌}
use Rattle.std.specs.Str.{str_to_ascii_lowercase}
use Rattle.mime_types.specs.Mime.{Assigned, assigned_value}
use Rattle.mime_types.specs.Reading.{kept_with}
use Rattle.mime_types.specs.Stored.{pairs_in}
use Rattle.mime_types.proofs.ReadingLemmas.{reads_segment}
use Rattle.mime_types.proofs.parameters.read_segment.Goals as goal
use Rattle.mime_types.proofs.parameters.read_segment.Goals.{in-Some+in_ok-lowered+in_ok-keep, in_default}

-- what is kept of a name with a value
keep_found : (old new : List (List ℕ × List ℕ)) (name small value : List ℕ) (assigned : Assigned)
    → assigned_value assigned ≡ Some value → small ≡ str_to_ascii_lowercase name
    → new ≡ kept_with old (Some (small, value))
    → new ≡ kept_with old (option_map (λ v. (str_to_ascii_lowercase name, v)) (assigned_value assigned))
keep_found old new name small value assigned found lowered kept =
    kept ∙ ap (λ n. kept_with old (Some (n, value))) lowered
    ∙ ap (λ v. kept_with old (option_map (λ v. (str_to_ascii_lowercase name, v)) v)) (sym found)

pub returns : goal.returns
returns c =
    let found = c.in_ok-value.ensures in
    let name = c.split_name.result.0.now in
    let segment = reads_segment c.args.text.now c.trim_http_ws_start.result.now name c.split_name.result.1.now
    c.in_ok-value.rest.now found.0 c.trim_http_ws_start.ensures c.split_name.ensures found.1 in
    let old = pairs_in c.args.kept.now.items in (
      record { space = segment.0; name = name; assigned = found.0 },
      segment.1,
      elim c.match-value.branch [
        | in-Some+in_ok-lowered+in_ok-keep w ↦
            ap (λ kept. pairs_in kept.items) w.kept-is
            ∙ keep_found old (pairs_in w.keep.new.kept.items) name w.in_ok-lowered.field-0.items w.in-Some.value.items found.0
            (sym found.2 ∙ ap (λ v. option_map (λ v. v.items) v) w.in-Some.is) w.in_ok-lowered.ensures w.in_ok-keep.ensures.ok
        | in_default w ↦
            ap (λ kept. pairs_in kept.items) w.kept-is
            ∙ ap (λ v. kept_with old (option_map (λ v. (str_to_ascii_lowercase name, v)) v))
            (sym (sym found.2 ∙ ap (λ v. option_map (λ v. v.items) v) w.in_default.is))
      ],
    )
