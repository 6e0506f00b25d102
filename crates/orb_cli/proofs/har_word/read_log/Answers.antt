use Rattle.std.proofs.Common.{◌≡◌, ◌++◌, length, take, arith}
use Rattle.std.proofs.lemmas.List.{length-take-le}
use Rattle.orb_io.proofs.ToldLemmas.{Loses-twice}
use Rattle.orb_cli.proofs.HarLemmas.{refused_piece}
use Rattle.orb_cli.proofs.har_word.read_log.Goals as goal

pub returns-in-Err-add_piece-clause-read : goal.returns-in-Err-add_piece-clause-read
returns-in-Err-add_piece-clause-read g c =
    let i = c.pulls.invariant in
    let left = g.I.Source.left c.args.input.now in
    let after = g.I.Source.left c.pull.new.self in
    let piece = take c.in-Ok.count c.pull.new.buf in
    let long : length piece ≡ c.in-Ok.count = length-take-le c.in-Ok.count c.pull.new.buf c.in-Ok.ensures.bound.0 in (
      c.pulls.text.items ++ piece,
      Loses-twice left (g.I.Source.left c.pulls.input) after c.pulls.text.items piece i.lost c.in-Ok.ensures.bytes.0,
      refused_piece c.pulls.text.items c.add_piece.new.text.items piece c.in-Err-add_piece.refused i.fits
          (omega (arith, long, c.in-Ok.ensures.bound, i.room)) c.in-Err-add_piece.ensures,
    )
