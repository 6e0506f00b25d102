use Rattle.std.proofs.Common.{◌-◌, length, take, drop, sym, ap, inr, arith, length-append, length-take}
use Rattle.std.proofs.lemmas.List.{take-append-drop}
use Rattle.orb_io.specs.Outboxes.{OutboxState, outbox_room}
use Rattle.orb_io.proofs.outbox.OutboxSink.push.Goals as goal

pub returns-else-piece-len-clause-bytes : goal.returns-else-piece-len-clause-bytes
returns-else-piece-len-clause-bytes c =
    let room = outbox_room - length c.args.self.now.bytes in
    let prefix = take room c.args.piece.now in (
      prefix,
      (drop room c.args.piece.now, sym (take-append-drop room c.args.piece.now)),
      record {
        bytes = c.fill.ensures.bytes;
        number = omega (arith, ap length c.fill.ensures.bytes, length-append c.args.self.now.bytes prefix);
      },
    )

pub returns-else-piece-len-clause-keeps : goal.returns-else-piece-len-clause-keeps
unfolding outbox_room
returns-else-piece-len-clause-keeps c =
    let view = ap (λ (b : OutboxState). length b.bytes) c.self.view_is in
    let room = outbox_room - length c.args.self.now.bytes in
    let longer = ap length c.fill.ensures.bytes in
    let both = length-append c.args.self.now.bytes (take room c.args.piece.now) in
    record {
      more = omega (arith, longer, both);
      full = inr (omega (arith, longer, both, length-take room c.args.piece.now, view, c.len.ensures));
    }
