use Rattle.std.proofs.Common.{◌++◌, take}
use Rattle.orb_io.proofs.StreamLemmas.{Appends-twice, cut_again}
use Rattle.orb_io.proofs.streams.write_and_flush.Goals as goal

pub writing-preserved : goal.writing-preserved
writing-preserved g c =
    let done = c.writing.invariant.0 in
    let count = c.in_ok-count.count in (
      done ++ take count c.writing.rest.now,
      rw c.split_at.ensures.back (cut_again _ done c.writing.rest.now count c.writing.invariant.1),
      Appends-twice _ _ _ done _ c.writing.invariant.2 c.in_ok-count.ensures.bytes,
    )
