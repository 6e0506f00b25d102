use Rattle.std.proofs.Common.{◌++◌, length, sym, ap, ◌∙◌, codes, length-append, arith}
use Rattle.orb_bytes.specs.Bytes.{is_whitespace_byte}
use Rattle.corb_sniffers.proofs.SpaceLemmas.{leading_outside, leading_length}
use Rattle.corb_sniffers.proofs.HtmlLemmas.{spaces_alike, comment_alike}
use Rattle.corb_sniffers.proofs.html.after_pieces.Goals as goal

pub comments-init : goal.comments-init
comments-init c = record {
  alike = rw (c.trim_whitespace_start-rest.ensures) (spaces_alike c.args.window.now);
  no_space = λ b rest is. leading_outside is_whitespace_byte c.args.window.now b rest (sym c.trim_whitespace_start-rest.ensures ∙ is);
}

pub comments-smaller : goal.comments-smaller
comments-smaller c =
    let comment = c.in-Some.ensures in
    let shorter = leading_length is_whitespace_byte c.in-Some.after.now in
    let spaces = ap length c.trim_whitespace_start-rest-in-Some.ensures in
    let long = ap length comment.cut in
    omega (arith, length-append comment.inside (codes "-->" ++ c.in-Some.after.now))

pub comments-preserved : goal.comments-preserved
comments-preserved c =
    let comment = c.in-Some.ensures in
    let after = comment_alike comment.inside c.in-Some.after.now comment.first in
    let spaces = spaces_alike c.in-Some.after.now in
    record {
      alike = rw (c.trim_whitespace_start-rest-in-Some.ensures) (
        λ h. spaces.0 (after.0 (rw comment.cut at (c.comments.invariant.alike.0 h))),
        λ h. c.comments.invariant.alike.1 (rw comment.cut (after.1 (spaces.1 h))),
      );
      no_space = λ b rest is. leading_outside is_whitespace_byte c.in-Some.after.now b rest (sym c.trim_whitespace_start-rest-in-Some.ensures ∙ is);
    }
