use Rattle.std.proofs.Common.{◌≡◌, ◌++◌, length, ap, ap₂, ◌∙◌}
use Rattle.std.specs.Prelude.{codes, decimal, filter}
use Rattle.std.specs.List.{flat_map}
use Rattle.http_exchange.specs.Messages.{field_line}
use Rattle.har_recording.specs.Recorded.{is_kept, length_field}
use Rattle.har_recording.specs.Seen.{headers_in}
use Rattle.har_recording.proofs.HeaderLemmas.{lines_and_one}
use Rattle.har_recording.proofs.messages.add_response_fields.Goals as goal

pub returns : goal.returns
returns c =
    let value : c.as_slice-2.result.now ≡ decimal (length c.args.response.now.body.items) = cc in
    c.in_ok-add_field.ensures
    ∙ ap₂ (λ written text. written ++ field_line (codes "Content-Length", text)) c.in_ok-add_headers.ensures value
    ∙ ap (λ headers. (c.args.recording.now.items ++ flat_map field_line (filter is_kept (headers_in headers)))
    ++ field_line (length_field c.args.response.now.body.items)) c.as_slice.ensures.value
    ∙ lines_and_one c.args.recording.now.items (filter is_kept (headers_in c.args.response.now.headers.items))
    (length_field c.args.response.now.body.items)
