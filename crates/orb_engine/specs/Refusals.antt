-- What a refusal keeps, whatever follows it.
use Rattle.std.specs.Prelude.{◌≡◌, Bool, false}
use Rattle.orb_engine.specs.declared.settings.Settings.{Settings}
use Rattle.orb_engine.specs.Recording.{Recording}
use Rattle.orb_engine.specs.Ends.{stop_of}
use Rattle.orb_engine.specs.Outputs.{output_of}
use Rattle.orb_engine.specs.Counts.{rules_of}

-- the second, whether or not its input has ended, is answered as the first where more may come
pub record IsAnsweredAs (s : Settings) (a b : Recording) : Type 0 where
  pub stop : (ended : Bool) → stop_of b ended ≡ stop_of a false
  pub output : (ended : Bool) → output_of s b ended ≡ output_of s a false
  pub rules : (ended : Bool) → rules_of s b ended ≡ rules_of s a false
