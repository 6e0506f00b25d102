use Rattle.std.proofs.Common.{List, ℕ, [], ◌∷◌, ◌++◌, false, Err, subst}
use Rattle.orb_io.proofs.GivesLemmas.{Gives-none}
use Rattle.orb_bytes.specs.Ascii.{line_feed}
use Rattle.header_values.specs.Fields.{pairs_in}
use Rattle.http_exchange.specs.Reading.{ReadsResponseHead}
use Rattle.computed_type.specs.Computed.{HasType, essence_text}
use Rattle.computed_type.proofs.RunLemmas.{head_ran, bad_ran, body_ran, done_ran, fault_ran, fields_of}
use Rattle.computed_type.proofs.run.TypeRun.run.Goals as goal

pub returns-in-Err-clause-ran : goal.returns-in-Err-clause-ran
returns-in-Err-clause-ran g c =
    Gives-none _ [] _ (g.met.O.Sink.told_agrees c.args.output.now)
    (head_ran c.in-Err.outcome _ _ c.read_head.new.head c.read_head.new.window.items c.in-Err.ensures.reads)

pub returns-in-Err-read_response-clause-ran : goal.returns-in-Err-read_response-clause-ran
returns-in-Err-read_response-clause-ran g c =
    Gives-none _ [] _ (g.met.O.Sink.told_agrees c.args.output.now)
    (bad_ran c.in-Err-read_response.kind _ _ c.in-Ok.taken c.read_head.new.head c.read_head.new.window.items c.in-Ok.ensures.reads
    (subst (λ (t : List ℕ). ReadsResponseHead t false (Err c.in-Err-read_response.kind)) c.as_slice.ensures.value c.in-Err-read_response.ensures.reads))

pub returns-in-Err-read_body-clause-ran : goal.returns-in-Err-read_body-clause-ran
returns-in-Err-read_body-clause-ran g c =
    Gives-none _ [] _ (g.met.O.Sink.told_agrees c.args.output.now)
    (body_ran c.in-Err-read_body.outcome _ _ _ c.in-Ok.taken c.read_head.new.head c.read_head.new.window.items c.read_body.new.window.items
    (pairs_in c.in-Ok-read_response.head.fields) c.in-Ok.ensures.reads
    (fields_of c.read_head.new.head c.as_slice.result.now c.in-Ok-read_response.head c.as_slice.ensures.value c.in-Ok-read_response.ensures.reads)
    c.in-Err-read_body.ensures.reads)

pub returns-in-Ok-put_line-clause-ran : goal.returns-in-Ok-put_line-clause-ran
returns-in-Ok-put_line-clause-ran g c =
    let fields = pairs_in c.in-Ok-read_response.head.fields in
    let essence = essence_text c.computed.result in
    let is : HasType fields c.read_body.new.window.items essence =
    subst (λ (t : List ℕ). HasType fields t essence) c.as_slice-2.ensures.value c.computed.ensures.essence in
    record {
      more = essence ++ line_feed ∷ [];
      gained = c.in-Ok-put_line.ensures.puts.bytes;
      holds = done_ran _ _ _ c.in-Ok.taken c.read_head.new.head c.read_head.new.window.items c.read_body.new.window.items fields essence
          c.in-Ok.ensures.reads
          (fields_of c.read_head.new.head c.as_slice.result.now c.in-Ok-read_response.head c.as_slice.ensures.value c.in-Ok-read_response.ensures.reads)
          c.in-Ok-read_body.ensures.reads is;
    }

pub returns-in-Err-put_line-clause-ran : goal.returns-in-Err-put_line-clause-ran
returns-in-Err-put_line-clause-ran g c =
    let fields = pairs_in c.in-Ok-read_response.head.fields in
    let essence = essence_text c.computed.result in
    let is : HasType fields c.read_body.new.window.items essence =
    subst (λ (t : List ℕ). HasType fields t essence) c.as_slice-2.ensures.value c.computed.ensures.essence in
    let (prefix, within, gained) = c.in-Err-put_line.ensures.puts.bytes in
    record {
      more = prefix;
      gained = gained;
      holds = fault_ran _ _ _ c.in-Ok.taken c.read_head.new.head c.read_head.new.window.items c.read_body.new.window.items fields essence prefix
          c.in-Ok.ensures.reads
          (fields_of c.read_head.new.head c.as_slice.result.now c.in-Ok-read_response.head c.as_slice.ensures.value c.in-Ok-read_response.ensures.reads)
          c.in-Ok-read_body.ensures.reads is within;
    }
