-- How far a recording has been read, and how many of its exchanges are whole.
use Rattle.std.specs.Prelude.{ℕ, ◌+◌, Bool, if◌then◌else◌}
use Rattle.orb_engine.specs.declared.progress.Counts.{Counts}
use Rattle.orb_engine.specs.declared.progress.Progress.{Progress}

-- one exchange more
abbrev pub count_with : Counts → Bool → Counts
count_with c allow =
    if allow then record { allowed = c.allowed + 1; blocked = c.blocked }
    else record { allowed = c.allowed; blocked = c.blocked + 1 }

-- so many bytes more were taken
abbrev pub advanced : Progress → ℕ → Progress
advanced p n = record { offset = p.offset; taken = p.taken + n; counts = p.counts; told = p.told }

-- the exchange at hand is whole, and the next begins
abbrev pub closed : Progress → Bool → Progress
closed p allow = record { offset = p.taken; taken = p.taken; counts = count_with p.counts allow; told = p.told }

-- the output of all that are whole has gone out
abbrev pub committed : Progress → Progress
committed p = record { offset = p.offset; taken = p.taken; counts = p.counts; told = p.counts }

-- those whose output has not gone out are forgotten
abbrev pub rolled_back : Progress → Progress
rolled_back p = record { offset = p.offset; taken = p.taken; counts = p.told; told = p.told }
