-- That a worker does the job of some settings has one proof at most.
use mathlib.Core.Sum.{⊎_set}
use Rattle.std.proofs.Props.{props}
use Rattle.orb_engine.specs.declared.settings.Settings.{Settings}
use Rattle.orb_engine.specs.declared.worker.Worker.{Worker}
use Rattle.orb_engine.specs.declared.worker.Worker.TheVariants as worker
use Rattle.orb_engine.specs.Workers.{IsWorkerFor}

pub IsWorkerFor-prop : (w : Worker) (s : Settings) → IsProp (IsWorkerFor w s)
IsWorkerFor-prop (worker.Filters f) s = hlevel (⊎_set, props)
IsWorkerFor-prop (worker.Explains d) s = hlevel (⊎_set, props)
