use Rattle.std.proofs.Common.{◌≤◌, length, ap, ◌∙◌, arith, append_assoc, length-append}
use Rattle.http_exchange.specs.Messages.{head_text}
use Rattle.trial.specs.Trials.{kind_of, size_of, id_of, request_line, request_of, status_line, fields_of, body_of, sent_of, kind_text}
use Rattle.trial.proofs.ExchangeLemmas.{body_some, body_length, jpeg_length, response_fits}
use Rattle.trial.proofs.numbered.write_exchange.Goals as goal

pub append_response-requires-clause-some : goal.append_response-requires-clause-some
append_response-requires-clause-some c =
    omega (arith, ap length c.body_of-body.ensures.body, body_some c.kind_of-kind.result (size_of c.args.number), c.len.ensures.value)

pub append_sent-requires-clause-room : goal.append_sent-requires-clause-room
append_sent-requires-clause-room c =
    let kind = c.kind_of-kind.result in
    let few : c.len.result ≤ 8072 =
    omega (
      arith,
      ap length c.body_of-body.ensures.body,
      body_length kind (size_of c.args.number) (omega arith),
      c.len.ensures.value,
    ) in
    omega (
      arith,
      ap length c.append_response.ensures,
      length-append c.start_request.new.text.items (head_text (status_line kind) (fields_of kind c.len.result)),
      response_fits kind c.len.result (omega arith),
      c.start_request.ensures.short,
    )

pub append_sent-requires-clause-few : goal.append_sent-requires-clause-few
append_sent-requires-clause-few c =
    omega (
      arith,
      ap length c.as_slice.ensures.value,
      ap length c.body_of-body.ensures.body,
      body_length c.kind_of-kind.result (size_of c.args.number) (omega arith),
    )

pub append_sent-requires-clause-chunked : goal.append_sent-requires-clause-chunked
append_sent-requires-clause-chunked c jpeg =
    let body = c.as_slice.ensures.value ∙ c.body_of-body.ensures.body ∙ ap (λ k. body_of k (size_of c.args.number)) jpeg in
    omega (arith, ap length body, jpeg_length (size_of c.args.number) (omega arith))

pub returns-clause-text : goal.returns-clause-text
unfolding kind_text
returns-clause-text c =
    let size = size_of c.args.number in
    let kind = c.kind_of-kind.result in
    let body = c.body_of-body.ensures.body in
    rw (
      c.append_sent.ensures,
      c.append_response.ensures,
      c.start_request.ensures.text,
      c.as_slice.ensures.value,
      c.len.ensures.value,
      body,
      c.kind_of-kind.ensures,
    )
    (append_assoc
    (head_text request_line (request_of (kind_of c.args.number) (id_of c.args.number)))
    (head_text (status_line (kind_of c.args.number)) (fields_of (kind_of c.args.number) (length (body_of (kind_of c.args.number) size))))
    (sent_of (kind_of c.args.number) (body_of (kind_of c.args.number) size)))
