use Rattle.std.proofs.Common.{◌≡◌, false, [], take}
use Rattle.http_exchange.specs.Places.{IsSound, is_dead, run, gives}
use Rattle.http_exchange.proofs.pieces.pass_framing.Given as goal

abbrev pub invariant-loop-at : goal.invariant-loop-at
invariant-loop-at l = record {
  leads : run l.fn.start (take l.at l.piece) ≡ l.place;
  frames : gives l.fn.start (take l.at l.piece) ≡ [];
  alive : is_dead l.fn.start ≡ false → is_dead l.place ≡ false;
  sound : IsSound l.place;
}
