use Rattle.http_exchange.proofs.ChunkLemmas.{chunk-last}
use Rattle.http_exchange.proofs.framing.gather_last_chunks.Goals as goal

pub returns-clause-chunks : goal.returns-clause-chunks
returns-clause-chunks c =
    rw (
      c.append-4.ensures.items,
      c.append-3.ensures.items,
      c.append-2.ensures.items,
      c.append.ensures.items,
      c.clear.ensures.items,
      c.as_slice.ensures.value,
      c.hexadecimal.ensures,
    )
    (chunk-last c.args.rest.now)
