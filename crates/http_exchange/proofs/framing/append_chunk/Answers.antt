use Rattle.http_exchange.proofs.ChunkLemmas.{chunk-after}
use Rattle.http_exchange.proofs.framing.append_chunk.Goals as goal

pub returns-clause-chunk : goal.returns-clause-chunk
returns-clause-chunk c =
    rw (c.append-3.ensures.items, c.append-2.ensures.items, c.append_nonempty.ensures.items, c.append.ensures.items)
    (chunk-after c.args.text.now.items c.args.prefix.now c.args.back.now c.requires.full)
