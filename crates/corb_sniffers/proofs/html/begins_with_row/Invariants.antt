use Rattle.std.proofs.Common.{◌≡◌, ℕ, ◌<◌, ◌&&◌, false, take, drop}
use Rattle.std.specs.List.{list_any}
use Rattle.orb_bytes.specs.Rows.{is_just_matched}
use Rattle.orb_bytes.specs.Walks.{HasRead}
use Rattle.corb_sniffers.specs.HtmlReading.{begins_ending}
use Rattle.corb_sniffers.proofs.html.begins_with_row.Given as goal

abbrev pub invariant-loop-b : goal.invariant-loop-b
invariant-loop-b l = record {
  reads : HasRead l.walk l.fn.rows (take l.b-index l.text);
  none : (k : ℕ) → k < l.b-index → (list_any (is_just_matched (take k l.text)) l.fn.rows && begins_ending (drop k l.text)) ≡ false;
}
