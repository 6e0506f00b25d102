use Rattle.std.proofs.lemmas.Result.{err_from_is_err_and}
use Rattle.mime_types.specs.Stored.{pairs_in, record_in}
use Rattle.mime_types.proofs.EssenceLemmas.{essence_some, mime_read}
use Rattle.mime_types.proofs.RecordLemmas.{mime_is_record}
use Rattle.mime_types.proofs.records.MimeType.parse.Goals as goal

pub returns-in_err-main-clause-not_mime : goal.returns-in_err-main-clause-not_mime
returns-in_err-main-clause-not_mime c =
    let error = err_from_is_err_and c.from_residual.result c.from_residual.ensures.1 in
    rw (error.1, error.2) (
      λ never. absurd (cc),
      λ none. absurd (essence_some c.args.text.now c.in-Some.main.now c.in-Some.sub.now c.in-Some.tail.now c.in-Some.ensures.found none),
    )

pub returns-in_err-sub-clause-not_mime : goal.returns-in_err-sub-clause-not_mime
returns-in_err-sub-clause-not_mime c =
    let error = err_from_is_err_and c.from_residual-in_err-sub.result c.from_residual-in_err-sub.ensures.1 in
    rw (error.1, error.2) (
      λ never. absurd (cc),
      λ none. absurd (essence_some c.args.text.now c.in-Some.main.now c.in-Some.sub.now c.in-Some.tail.now c.in-Some.ensures.found none),
    )

pub returns-in_err-parameters-clause-not_mime : goal.returns-in_err-parameters-clause-not_mime
returns-in_err-parameters-clause-not_mime c =
    let error = err_from_is_err_and c.from_residual-in_err-parameters.result c.from_residual-in_err-parameters.ensures.1 in
    rw (error.1, error.2) (
      λ never. absurd (cc),
      λ none. absurd (essence_some c.args.text.now c.in-Some.main.now c.in-Some.sub.now c.in-Some.tail.now c.in-Some.ensures.found none),
    )

pub returns-clause-found : goal.returns-clause-found
returns-clause-found c =
    mime_read c.args.text.now c.in-Some.main.now c.in-Some.sub.now c.in-Some.tail.now c.in_ok-main.main.items c.in_ok-sub.sub.items
    (pairs_in c.in_ok-parameters.parameters.items) c.in-Some.ensures.found c.in_ok-main.ensures c.in_ok-sub.ensures c.in_ok-parameters.ensures

pub invariant_of-result : goal.invariant_of-result
invariant_of-result c =
    mime_is_record c.args.text.now (record_in c.in_ok-main.main.items c.in_ok-sub.sub.items c.in_ok-parameters.parameters.items)
    (mime_read c.args.text.now c.in-Some.main.now c.in-Some.sub.now c.in-Some.tail.now c.in_ok-main.main.items c.in_ok-sub.sub.items
    (pairs_in c.in_ok-parameters.parameters.items) c.in-Some.ensures.found c.in_ok-main.ensures c.in_ok-sub.ensures c.in_ok-parameters.ensures)

pub returns-clause-not_mime : goal.returns-clause-not_mime
returns-clause-not_mime c = (
  λ never. absurd (cc),
  λ none. absurd (essence_some c.args.text.now c.in-Some.main.now c.in-Some.sub.now c.in-Some.tail.now c.in-Some.ensures.found none),
)
