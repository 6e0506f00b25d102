use Rattle.std.proofs.Common.{◌≡◌, ◌+◌, ◌-◌, ◌++◌, length, take, refl, ap, arith, length-append}
use Rattle.http_exchange.specs.Chunks.{chunk}
use Rattle.http_exchange.proofs.ChunkLemmas.{chunk-some}
use Rattle.http_exchange.proofs.FramingLemmas.{gathers-none, gathers-one, gathers-more}
use Rattle.http_exchange.proofs.framing.gather_chunks.Goals as goal

pub chunks-init : goal.chunks-init
chunks-init c = record {
  short = c.requires.short;
  rest_room = c.requires.rest_room;
  text_room = omega (arith, c.clear.ensures.capacity, c.requires.text_room);
  gathers = rw c.clear.ensures.items (gathers-none c.args.rest.now.items c.args.piece.now c.requires.short);
  some = λ fills none. fills;
}

pub chunks-preserved : goal.chunks-preserved
chunks-preserved c =
    let text = c.chunks.text.items in
    let rest = c.chunks.rest.items in
    let left = c.chunks.left.now in
    let size = 1024 - c.len-in-chunks-2.result in
    let full : length rest + length (take size left) ≡ 1024 =
    omega (arith, ap length c.split_at.ensures.front, c.split_at.ensures.front_len, c.len-in-chunks-2.ensures) in
    let longer : c.append_chunk.new.text.items ≡ text ++ chunk (rest ++ take size left) =
    rw (c.append_chunk.ensures.chunk, c.as_slice.ensures.value, c.split_at.ensures.front) refl in
    record {
      short = rw c.clear-in-chunks.ensures.items (omega arith);
      rest_room = omega (arith, c.clear-in-chunks.ensures.capacity, c.chunks.invariant.rest_room);
      text_room = omega (arith, c.append_chunk.ensures.capacity, c.chunks.invariant.text_room);
      gathers = rw (c.clear-in-chunks.ensures.items, longer, c.split_at.ensures.back)
          (gathers-more _ _ text rest left _ _ _ c.chunks.invariant.gathers (gathers-one rest left size full));
      some = λ fills none. absurd (omega (
        arith,
        ap length longer,
        length-append text (chunk (rest ++ take size left)),
        chunk-some (rest ++ take size left),
      ));
    }
