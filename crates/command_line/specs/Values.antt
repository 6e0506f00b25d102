-- What the words of a subcommand ask for, by the values that clap finds. The contracts within the crate speak of it.
use Rattle.std.specs.Prelude.{ℕ, Bool, ◌&&◌, nat_le, List, Option, Some, None, codes, bytes_eq, option_map, option_and_then, if◌then◌else◌}
use Rattle.orb_bytes.specs.Decimal.{decimal_of}
use Rattle.clap.specs.Walk.{Row, first_of}
use Rattle.command_line.specs.declared.asked.Job.{Job}
use Rattle.command_line.specs.declared.asked.Job.TheVariants.{Filter, Explain}
use Rattle.command_line.specs.declared.asked.Policy.{Policy}
use Rattle.command_line.specs.declared.asked.Policy.TheVariants.{Orb, Corb}
use Rattle.command_line.specs.declared.numbers.TheConstants.{LEAST_LIMIT, MOST_LIMIT, DEFAULT_LIMIT, MOST_SEED, MOST_COUNT}
use Rattle.command_line.specs.Taken.{Text, Asked, Judge, Trial, Mime, Har, ComputedType, Serve, Proxy, is_operand}

abbrev pub if_in : (least most n : ℕ) → Option ℕ
if_in least most n = if nat_le least n && nat_le n most then Some n else None

-- the number that the word writes, where it is in the range
abbrev pub number_in : (least most : ℕ) → Text → Option ℕ
number_in least most word = option_and_then (if_in least most) (decimal_of word)

abbrev pub operand_of : Text → Option Text
operand_of word = if is_operand word then Some word else None

abbrev pub policy_of : Option Text → Option Policy
policy_of None = Some Orb
policy_of (Some value) =
    if bytes_eq value (codes "orb") then Some Orb
    else if bytes_eq value (codes "corb") then Some Corb
    else None

abbrev pub limit_of : Option Text → Option ℕ
limit_of None = Some DEFAULT_LIMIT
limit_of (Some value) = number_in LEAST_LIMIT MOST_LIMIT value

-- where both are there
abbrev pub of_both : {X Y : Type 0} → (X → Y → Asked) → Option X → Option Y → Option Asked
of_both ask first second = option_and_then (λ x. option_map (ask x) second) first

abbrev pub judge_of : Job → List Row → Option Asked
judge_of job rows =
    of_both (Judge job) (policy_of (first_of (codes "policy") rows)) (limit_of (first_of (codes "limit") rows))

abbrev pub first_operand : List Row → Option Text
first_operand rows = first_of (codes "first") rows

abbrev pub count_in : List Row → Option ℕ
count_in rows = option_and_then (number_in 1 MOST_COUNT) (first_of (codes "second") rows)

abbrev pub trial_of : List Row → Option Asked
trial_of rows = of_both Trial (option_and_then (number_in 0 MOST_SEED) (first_operand rows)) (count_in rows)

abbrev pub mime_of : List Row → Option Asked
mime_of rows = option_map Mime (option_and_then operand_of (first_operand rows))

-- an address and a count
abbrev pub listening_of : (Text → ℕ → Asked) → List Row → Option Asked
listening_of ask rows = of_both ask (option_and_then operand_of (first_operand rows)) (count_in rows)

-- the subcommand that was met, and its values
abbrev pub asked_as : Text → List Row → Option Asked
asked_as name rows =
    if bytes_eq name (codes "filter") then judge_of Filter rows
    else if bytes_eq name (codes "explain") then judge_of Explain rows
    else if bytes_eq name (codes "trial") then trial_of rows
    else if bytes_eq name (codes "mime") then mime_of rows
    else if bytes_eq name (codes "har") then Some Har
    else if bytes_eq name (codes "type") then Some ComputedType
    else if bytes_eq name (codes "serve") then listening_of Serve rows
    else if bytes_eq name (codes "proxy") then listening_of Proxy rows
    else None

abbrev pub asked_by : Option (Text × List Row) → Option Asked
asked_by met = option_and_then (λ p. asked_as p.0 p.1) met

-- `--`, which ends the options (POSIX XBD 12.2, guideline 10)
abbrev pub is_end_of_options : Text → Bool
is_end_of_options word = bytes_eq word (codes "--")
