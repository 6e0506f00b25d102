use Rattle.std.proofs.Common.{◌≡◌, ◌+◌, ◌≤◌, length, sym, ap, ◌∙◌, Some, None, arith}
use Rattle.bstr.specs.Utf8.{decoded, or_replacement}
use Rattle.bstr.proofs.lemmas.PieceLemmas.{piece-bounds}
use Rattle.text_stream.specs.Decoding.{further_bytes, further_bytes_of}
use Rattle.text_stream.proofs.DecodingLemmas.{size-of_sequence}
use Rattle.text_stream.proofs.DecoderLemmas.{settled_some, settled_four, settled_first, some_bytes}
use Rattle.text_stream.proofs.decoder.settled_character.Goals as goal

pub returns-in-Some-default : goal.returns-in-Some-default
returns-in-Some-default c =
    let bytes = c.args.bytes.now in
    let is : (decoded bytes).char ≡ Some c.in-Some-default.c = sym c.decode.ensures.char ∙ c.in-Some-default.is-0 in
    let some = some_bytes bytes c.in-Some-default.c is in
    let bounds = piece-bounds bytes some in
    let size : c.decode.result.1 ≡ further_bytes (decoded bytes) + 1 = c.decode.ensures.size ∙ size-of_sequence bytes c.in-Some-default.c some is in (
      omega arith,
      omega (arith, bounds.2, c.decode.ensures.size),
      λ more.
          settled_first bytes more c.in-Some-default.c c.decode.result.1 some (sym (ap or_replacement is)) size
          (omega (arith, bounds.2, c.decode.ensures.size)) (settled_some bytes more c.in-Some-default.c c.requires is),
    )

pub returns-in-None-default : goal.returns-in-None-default
returns-in-None-default c =
    let bytes = c.args.bytes.now in
    let is : (decoded bytes).char ≡ None = sym c.decode.ensures.char ∙ c.in-None-default.is-0 in
    let size : 1 ≡ further_bytes (decoded bytes) + 1 = ap (λ o. further_bytes_of o (decoded bytes).size + 1) (sym is) in
    let some : 1 ≤ length bytes = omega (arith, c.if-bytes-eq4.true) in
    (omega arith, some, λ more. settled_first bytes more 65533 1 some (sym (ap or_replacement is)) size some (settled_four bytes more c.if-bytes-eq4.true))
