-- What a call of an engine does, in one word.
use Rattle.std.specs.Prelude.{ℕ, List}
use Rattle.orb_io.specs.Told.{Gives}
use Rattle.orb_io.specs.Calls.{Acts}
use Rattle.orb_io.specs.declared.outside.Sink.{Ghosts}
use Rattle.orb_engine.specs.declared.settings.Settings.{Settings}

-- it holds for some settings, of some bytes read and some given
abbrev pub Meets : (Settings → List ℕ → List ℕ → Type 0) → Type 0
Meets P = (s : Settings) × (m : List ℕ) × (given : List ℕ) × P s m given

-- what held of what was read and given before: then this holds of it, with the bytes that the sink gained
abbrev pub Goes : {O M : Type 0} → (sink : Ghosts O) → (Caused : ℕ → ℕ → Type 0) → (old new : O) → (P Q : Settings → M → List ℕ → Type 0) → Type 0
Goes sink Caused old new P Q = Acts sink Caused old new (λ told told'. (s : Settings) (m : _) (given : List ℕ) → P s m given → Gives told told' given (Q s m))
