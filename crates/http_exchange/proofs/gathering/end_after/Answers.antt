use Rattle.std.proofs.Common.{◌≡◌, ◌++◌, take, None, Some, refl, sym, ◌∙◌}
use Rattle.http_exchange.specs.Head.{head_length}
use Rattle.http_exchange.proofs.GatherLemmas.{last_three, ends_alone, ends_in_seam, ends_in_piece}
use Rattle.http_exchange.proofs.gathering.end_after.Goals as goal

pub overflow_sub-result : goal.overflow_sub-result
overflow_sub-result c =
    let seam : c.as_slice.result.now ≡ last_three c.args.text.now ++ take 3 c.args.piece.now =
    rw (c.as_slice.ensures.value, c.extend-2.ensures, c.extend.ensures, c.new-seam.ensures, c.last_bytes-before.ensures, c.first_bytes.ensures.bytes) refl in
    let found : head_length (last_three c.args.text.now ++ take 3 c.args.piece.now) ≡ Some c.in-Some.end =
    rw (← seam) (sym c.head_end-2.ensures.value ∙ c.in-Some.is) in
    rw c.last_bytes-before.ensures ((ends_in_seam c.args.text.now c.args.piece.now c.in-Some.end c.requires found).1)

pub returns-in-Some : goal.returns-in-Some
returns-in-Some c =
    let seam : c.as_slice.result.now ≡ last_three c.args.text.now ++ take 3 c.args.piece.now =
    rw (c.as_slice.ensures.value, c.extend-2.ensures, c.extend.ensures, c.new-seam.ensures, c.last_bytes-before.ensures, c.first_bytes.ensures.bytes) refl in
    let found : head_length (last_three c.args.text.now ++ take 3 c.args.piece.now) ≡ Some c.in-Some.end =
    rw (← seam) (sym c.head_end-2.ensures.value ∙ c.in-Some.is) in
    rw c.last_bytes-before.ensures ((ends_in_seam c.args.text.now c.args.piece.now c.in-Some.end c.requires found).0)

pub returns-in-None : goal.returns-in-None
returns-in-None c =
    let seam : c.as_slice.result.now ≡ last_three c.args.text.now ++ take 3 c.args.piece.now =
    rw (c.as_slice.ensures.value, c.extend-2.ensures, c.extend.ensures, c.new-seam.ensures, c.last_bytes-before.ensures, c.first_bytes.ensures.bytes) refl in
    let found : head_length (last_three c.args.text.now ++ take 3 c.args.piece.now) ≡ None =
    rw (← seam) (sym c.head_end-2.ensures.value ∙ c.in-None.is) in
    ends_in_piece c.args.text.now c.args.piece.now _ c.requires found c.head_end-in-None.ensures.value

pub returns-then-is_empty : goal.returns-then-is_empty
returns-then-is_empty c =
    ends_alone c.args.text.now c.args.piece.now _ (sym c.is_empty.ensures ∙ c.if-is_empty.true) c.head_end.ensures.value
