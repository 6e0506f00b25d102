-- Calls that push, one after the other.
use Rattle.std.proofs.Common.{◌≡◌, ℕ, List, [], ◌++◌, Result, Ok, Err, refl}
use Rattle.orb_io.specs.Told.{Agrees, HasCause}
use Rattle.orb_io.specs.Calls.{Puts}
use Rattle.orb_io.specs.declared.outside.Sink.{Ghosts}
use Rattle.orb_io.proofs.ToldLemmas.{Gains-none, GainsPrefix-first, Pushes-after}

-- a call after which no count of faults rose changes no cause
pub HasCause-after : {T E : Type 0} (a b c : ℕ) (r : Result T E) → b ≡ a → HasCause b c r → HasCause a c r
HasCause-after a b c r same cause = rw (← same) cause

-- nothing was pushed
pub Puts-none : {O T E : Type 0} (g : Ghosts O) (value : T) (a : O) → Agrees (g.told a) → g.kept a a
    → Puts {O = O} {T = T} {E = E} g (Ok value) a a []
Puts-none g value a agrees kept = record { bytes = Gains-none (g.told a) agrees; cause = refl; keeps = kept }

-- one call after another that went well
pub Puts-then : {O T U E F : Type 0} (g : Ghosts O) (value : T) (r : Result U F) (a b c : O) (xs piece : List ℕ)
    → (g.kept a b → g.kept b c → g.kept a c) → Puts {E = E} g (Ok value) a b xs → Puts g r b c piece
    → Puts g r a c (xs ++ piece)
Puts-then g value r a b c xs piece kept first second = record {
  bytes = Pushes-after (g.told a) (g.told b) (g.told c) r xs piece first.bytes second.bytes;
  cause = HasCause-after (g.faults a) (g.faults b) (g.faults c) r first.cause second.cause;
  keeps = kept first.keeps second.keeps;
}

-- a call that failed, before others that would have come
pub Puts-first : {O T U E F : Type 0} (g : Ghosts O) (fault : E) (other : F) (a b : O) (xs ys : List ℕ)
    → Puts {T = T} g (Err fault) a b xs → Puts {T = U} g (Err other) a b (xs ++ ys)
Puts-first g fault other a b xs ys puts = record {
  bytes = GainsPrefix-first (g.told a) (g.told b) xs ys puts.bytes;
  cause = puts.cause;
  keeps = puts.keeps;
}
