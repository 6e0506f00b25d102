use Rattle.orb_bytes.specs.Bytes.{is_whitespace_byte}
use Rattle.orb_bytes.specs.Trim.{without_leading}
use Rattle.orb_bytes.proofs.TrimLemmas.{without_leading-append, leading_of}
use Rattle.corb_sniffers.proofs.TextLemmas.{breaker_stays}
use Rattle.corb_sniffers.proofs.breakers.has_breaker.Goals as goal

pub returns : goal.returns
returns c =
    let cut = leading_of is_whitespace_byte c.args.window.now in (
      λ is. record {
        spaces = cut.0;
        space = cut.1;
        rest = without_leading is_whitespace_byte c.args.window.now;
        begins = rw c.trim_whitespace_start.ensures at (c.begins_with_breaker.ensures.0 is);
        cut = cut.2;
      },
      λ h. c.begins_with_breaker.ensures.1
          (rw (c.trim_whitespace_start.ensures, h.cut, without_leading-append is_whitespace_byte h.spaces h.rest h.space, breaker_stays h.rest h.begins) h.begins),
    )
