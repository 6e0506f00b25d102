-- What the words of a command line ask of an engine. Which words are taken, and what they ask for, says `command_line`.
use Rattle.std.specs.Prelude.{◌≡◌, ℕ, Bool, true, false, List}
use Rattle.command_line.specs.Taken as words
use Rattle.command_line.specs.Taken.{Asked, IsTaken}
use Rattle.command_line.specs.declared.asked.Job as words_job
use Rattle.command_line.specs.declared.asked.Job.TheVariants as said_job
use Rattle.command_line.specs.declared.asked.Policy as words_policy
use Rattle.command_line.specs.declared.asked.Policy.TheVariants as said_policy
use Rattle.response_rules.specs.declared.verdicts.Policy.{Policy}
use Rattle.response_rules.specs.declared.verdicts.Policy.TheVariants.{Orb, Corb}
use Rattle.orb_engine.specs.declared.settings.Job.{Job}
use Rattle.orb_engine.specs.declared.settings.Job.TheVariants.{Filter, Explain}
use Rattle.orb_engine.specs.declared.settings.Settings.{Settings}

abbrev pub job_of : words_job.Job → Job
job_of said_job.Filter = Filter
job_of said_job.Explain = Explain

abbrev pub policy_of : words_policy.Policy → Policy
policy_of said_policy.Orb = Orb
policy_of said_policy.Corb = Corb

-- the settings of an engine that judges a recording so
abbrev pub settings_of : words_job.Job → words_policy.Policy → (limit : ℕ) → Settings
settings_of job policy limit = record { job = job_of job; policy = policy_of policy; limit = limit }

-- `run` does what is asked for: the other words are those of other calls
abbrev pub is_run : Asked → Bool
is_run (words.Judge job policy limit) = true
is_run (words.Trial seed count) = true
is_run (words.Mime text) = true
is_run words.Har = true
is_run words.ComputedType = true
is_run (words.Serve address count) = false
is_run (words.Proxy address count) = false

-- the words ask `run` for nothing
abbrev pub AreRefused : List (List ℕ) → Type 0
AreRefused said = (asked : Asked) → IsTaken said asked → is_run asked ≡ false
