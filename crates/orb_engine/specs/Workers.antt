-- What works on one response, and what it puts, by either job.
use Rattle.std.specs.Prelude.{◌≡◌, ℕ, List}
use Rattle.response_rules.specs.declared.facts.Facts.{Facts}
use Rattle.response_rules.specs.Facts.{AreFactsOf}
use Rattle.response_rules.specs.Heads.{Case}
use Rattle.response_rules.specs.Reads.{HasRead as DeciderHasRead}
use Rattle.body_filter.specs.Responses.{Response}
use Rattle.body_filter.specs.Reads.{HasRead as FilterHasRead, limit_of, held_in}
use Rattle.orb_engine.specs.declared.settings.Settings.{Settings}
use Rattle.orb_engine.specs.declared.settings.Job.TheVariants as job
use Rattle.orb_engine.specs.declared.worker.Worker.{Worker}
use Rattle.orb_engine.specs.declared.worker.Worker.TheVariants as worker

-- the worker does the job of these settings
abbrev pub IsWorkerFor : Worker → Settings → Type 0
IsWorkerFor (worker.Filters f) s = (s.job ≡ job.Filter) × (limit_of f ≡ s.limit)
IsWorkerFor (worker.Explains d) s = s.job ≡ job.Explain

-- how many bytes of a body it holds back
abbrev pub held_by : Worker → ℕ
held_by (worker.Filters f) = held_in f
held_by (worker.Explains d) = 0

-- it has read this prefix of the body of the response
abbrev pub WorkerReads : Worker → Response → List ℕ → Type 0
WorkerReads (worker.Filters f) x m = FilterHasRead f x m
WorkerReads (worker.Explains d) x m = DeciderHasRead d x.judged m

-- the worker of these settings has read it
pub record Works (w : Worker) (s : Settings) (x : Response) (m : List ℕ) : Type 0 where
  pub is_for : IsWorkerFor w s
  pub reads : WorkerReads w x m

-- the facts of a response that is read for a script as far as the settings say
pub record AreFactsFor (facts : Facts) (s : Settings) (h : Case) : Type 0 where
  pub of_head : AreFactsOf facts h
  pub limit : h.limit ≡ s.limit
