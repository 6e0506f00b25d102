use Rattle.trial.proofs.SourceLemmas.{chunk_after}
use Rattle.trial.proofs.bodies.append_chunk.Goals as goal

pub returns-clause-text : goal.returns-clause-text
returns-clause-text c =
    rw (
      c.extend-4.ensures,
      c.extend-3.ensures,
      c.extend-2.ensures,
      c.extend.ensures,
      c.as_slice.ensures.value,
      c.hexadecimal.ensures,
    )
    (chunk_after c.args.text.now.items c.args.bytes.now)
