-- What the two jobs put of one exchange.
use Rattle.std.proofs.Common.{◌≡◌, ℕ, ◌+◌, ◌*◌, ◌≤◌, List, [], ◌++◌, length, refl, sym, ap, subst, ◌∙◌, arith}
use Rattle.body_filter.proofs.GrowthLemmas.{feeds-short, ends-short}
use Rattle.body_filter.proofs.LawLemmas.{so_far-length, output-length}
use Rattle.response_rules.specs.declared.deciding.Decider.{Decider}
use Rattle.response_rules.specs.declared.verdicts.Verdict.{Verdict}
use Rattle.response_rules.specs.Tables.{rule_of}
use Rattle.response_rules.specs.Reads.{HasRead as DeciderHasRead, IsVerdict}
use Rattle.body_filter.specs.Responses.{Response, output_so_far, whole_output}
use Rattle.body_filter.specs.Reads.{HasRead as FilterHasRead, limit_of}
use Rattle.body_filter.specs.declared.filtering.Filter.{Filter}
use Rattle.orb_engine.specs.declared.settings.Settings.{Settings}
use Rattle.orb_engine.specs.declared.settings.Job.{Job}
use Rattle.orb_engine.specs.declared.settings.Job.TheVariants as job
use Rattle.orb_engine.specs.declared.worker.Worker.{Worker}
use Rattle.orb_engine.specs.declared.worker.Worker.TheVariants as worker
use Rattle.orb_engine.specs.Outputs.{line_of, line_by, written_so_far, written_whole}
use Rattle.orb_engine.specs.Workers.{IsWorkerFor, WorkerReads, Works, held_by}

pub so_far-filter : (j : Job) (x : Response) (m : List ℕ) → j ≡ job.Filter → written_so_far j x m ≡ output_so_far x m
unfolding written_so_far
so_far-filter j x m is = rw is refl

pub so_far-explain : (j : Job) (x : Response) (m : List ℕ) → j ≡ job.Explain → written_so_far j x m ≡ []
unfolding written_so_far
so_far-explain j x m is = rw is refl

pub whole-filter : (j : Job) (n : ℕ) (x : Response) (m : List ℕ) → j ≡ job.Filter → written_whole j n x m ≡ whole_output x m
unfolding written_whole
whole-filter j n x m is = rw is refl

pub whole-explain : (j : Job) (n : ℕ) (x : Response) (m : List ℕ) → j ≡ job.Explain
    → written_whole j n x m ≡ line_by n x (length m) (rule_of x.judged m)
unfolding written_whole
whole-explain j n x m is = rw is refl

-- the worker is a filter
pub for-filter : (w : Worker) (f : Filter) (s : Settings) → w ≡ worker.Filters f → IsWorkerFor w s
    → (s.job ≡ job.Filter) × (limit_of f ≡ s.limit)
for-filter w f s is h = subst (λ (v : Worker). IsWorkerFor v s) is h

pub reads-filter : (w : Worker) (f : Filter) (x : Response) (m : List ℕ) → w ≡ worker.Filters f → WorkerReads w x m
    → FilterHasRead f x m
reads-filter w f x m is h = subst (λ (v : Worker). WorkerReads v x m) is h

-- the worker explains
pub for-explain : (w : Worker) (d : Decider) (s : Settings) → w ≡ worker.Explains d → IsWorkerFor w s
    → s.job ≡ job.Explain
for-explain w d s is h = subst (λ (v : Worker). IsWorkerFor v s) is h

pub reads-explain : (w : Worker) (d : Decider) (x : Response) (m : List ℕ) → w ≡ worker.Explains d
    → WorkerReads w x m → DeciderHasRead d x.judged m
reads-explain w d x m is h = subst (λ (v : Worker). WorkerReads v x m) is h

-- the line that is owed
pub line-owed : (number : ℕ) (x : Response) (m : List ℕ) (v : Verdict) → IsVerdict x.judged m v
    → line_by number x (length m) (rule_of x.judged m) ≡ line_of number v.rule v.state (length m)
line-owed number x m v is = rw (is.state, is.rule) refl

pub line-written : (number size : ℕ) (s : Settings) (x : Response) (m : List ℕ) (v : Verdict) (line : List ℕ)
    → s.job ≡ job.Explain → IsVerdict x.judged m v → size ≡ length m → line ≡ line_of number v.rule v.state size
    → line ≡ written_whole s.job number x m
line-written number size s x m v line is verdict sized line_is =
    line_is ∙ ap (line_of number v.rule v.state) sized
    ∙ sym (whole-explain s.job number x m is ∙ line-owed number x m v verdict)

-- how much can be put
pub so_far-most : (j : Job) (x : Response) (m : List ℕ) → length (written_so_far j x m) ≤ length x.bytes + 2 * length m + 128
so_far-most j x m = by j refl
  where
    by : (i : Job) → j ≡ i → length (written_so_far j x m) ≤ length x.bytes + 2 * length m + 128
    by job.Filter is = omega (arith, ap length (so_far-filter j x m is), so_far-length x m)
    by job.Explain is = omega (arith, ap length (so_far-explain j x m is))

pub so_far-none : (j : Job) (x : Response) → length (written_so_far j x []) ≤ length x.bytes
so_far-none j x = by j refl
  where
    by : (i : Job) → j ≡ i → length (written_so_far j x []) ≤ length x.bytes
    by job.Filter is = omega (arith, ap length (so_far-filter j x [] is), so_far-length x [])
    by job.Explain is = omega (arith, ap length (so_far-explain j x [] is))

pub whole-most : (j : Job) (number : ℕ) (x : Response) (m : List ℕ) → j ≡ job.Filter
    → length (written_whole j number x m) ≤ length x.bytes + 2 * length m + 128
whole-most j number x m is = omega (arith, ap length (whole-filter j number x m is), output-length x m)

-- what the end writes
pub ends-most : (s : Settings) (w : Worker) (f : Filter) (number : ℕ) (x : Response) (m : List ℕ) → w ≡ worker.Filters f → Works w s x m
    → length (written_whole s.job number x m) ≤ length (written_so_far s.job x m) + length x.bytes + 2 * held_by w + 128
ends-most s w f number x m is works =
    let job = (for-filter w f s is works.is_for).0 in
    omega (
      arith,
      ap held_by is,
      ap length (so_far-filter s.job x m job),
      ap length (whole-filter s.job number x m job),
      ends-short f x m (reads-filter w f x m is works.reads),
    )

-- what a further piece writes
pub feeds-most : (s : Settings) (w : Worker) (f : Filter) (x : Response) (m p : List ℕ) → w ≡ worker.Filters f → Works w s x m
    → length (written_so_far s.job x (m ++ p)) ≤ length (written_so_far s.job x m) + length x.bytes + 2 * (held_by w + length p)
feeds-most s w f x m p is works =
    let job = (for-filter w f s is works.is_for).0 in
    omega (
      arith,
      ap held_by is,
      ap length (so_far-filter s.job x m job),
      ap length (so_far-filter s.job x (m ++ p) job),
      feeds-short f x m p (reads-filter w f x m is works.reads),
    )

pub feeds-none : (s : Settings) (w : Worker) (d : Decider) (x : Response) (m p : List ℕ) → w ≡ worker.Explains d → Works w s x m
    → length (written_so_far s.job x (m ++ p)) ≤ length (written_so_far s.job x m) + length x.bytes + 2 * (held_by w + length p)
feeds-none s w d x m p is works =
    omega (arith, ap length (so_far-explain s.job x (m ++ p) (for-explain w d s is works.is_for)))
