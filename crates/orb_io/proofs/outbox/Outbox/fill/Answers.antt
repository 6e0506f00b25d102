use Rattle.std.proofs.Common.{◌≡◌, ◌-◌, ◌++◌, length, take, ap, ap₂, ◌∙◌, arith}
use Rattle.orb_io.specs.Outboxes.{OutboxState, outbox_room}
use Rattle.orb_io.proofs.outbox.Outbox.fill.Goals as goal

pub returns-clause-bytes : goal.returns-clause-bytes
unfolding outbox_room
returns-clause-bytes c =
    let view : c.self.inside.bytes.items ≡ c.args.self.now.bytes = ap (λ (b : OutboxState). b.bytes) c.self.view_is in
    let room : c.len-room.result ≡ length c.args.self.now.bytes = omega (arith, c.len-room.ensures, ap length view) in
    c.append.ensures.items
    ∙ ap₂ (λ t u. t ++ u) view (c.first_bytes.ensures.bytes ∙ ap (λ n. take (16384 - n) c.args.piece.now) room)
