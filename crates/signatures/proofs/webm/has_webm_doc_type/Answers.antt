use Rattle.std.proofs.Common.{sym, ◌∙◌, ap, arith}
use Rattle.signatures.specs.Webm.{is_webm_offset, is_webm_doc_type}
use Rattle.signatures.proofs.PlaceLemmas.{some_below-at, some_below-none}
use Rattle.signatures.proofs.WebmLemmas.{is_webm_offset-from}
use Rattle.signatures.proofs.webm.has_webm_doc_type.Goals as goal

pub returns-then-is_doc_type : goal.returns-then-is_doc_type
returns-then-is_doc_type c =
    sym (some_below-at (is_webm_offset c.args.window.now) 38 c.loop-offset.offset c.loop-offset-test.true
    (is_webm_offset-from c.args.window.now c.loop-offset.offset c.loop-offset.auto.offset
    (sym (ap is_webm_doc_type c.from_offset.ensures) ∙ sym c.is_doc_type.ensures ∙ c.if-is_doc_type.true)))

pub returns : goal.returns
returns c =
    sym (some_below-none (is_webm_offset c.args.window.now) 38
    (λ k below. c.loop-offset.invariant k (omega (arith, c.loop-offset-test.false))))
