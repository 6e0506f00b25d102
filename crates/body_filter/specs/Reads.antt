-- What a filter has read of a response, and what its calls do then.
use Rattle.std.specs.Prelude.{◌≡◌, ℕ, Bool, true, false, List, [], ◌++◌, length, if◌then◌else◌}
use Rattle.response_rules.specs.declared.deciding.Decider.{Decider}
use Rattle.response_rules.specs.declared.facts.Facts.{Facts}
use Rattle.response_rules.specs.declared.verdicts.Verdict.{Verdict}
use Rattle.response_rules.specs.Heads.{Case}
use Rattle.response_rules.specs.Settled.{is_sent, is_hopeless}
use Rattle.response_rules.specs.Facts.{AreFactsOf}
use Rattle.response_rules.specs.Reads.{HasRead as DeciderHasRead, is_script_dead as is_dead_in}
use Rattle.body_filter.specs.declared.filtering.Filter.{Filter}
use Rattle.body_filter.specs.declared.phases.Phase.{Phase}
use Rattle.body_filter.specs.declared.phases.Phase.TheVariants as phase
use Rattle.http_exchange.specs.Chunks.{kept_of}
use Rattle.body_filter.specs.Responses.{Response}
use Rattle.http_exchange.specs.Framers.{is_chunked_by, kept_by}
use Rattle.body_filter.specs.Reply.{reply_of}
use Rattle.http_exchange.specs.Framing.{put_of, kept_after, end_of}

-- how many bytes of a body it holds back at most
abbrev pub limit_of : Filter → ℕ
limit_of f = f.limit

abbrev pub held_by : Phase → Filter → ℕ
held_by phase.Idle f = 0
held_by phase.Holding f = length f.held.items
held_by phase.Passing f = length (kept_by f.framer)
held_by phase.Dropping f = 0

-- how many it holds back now
unfoldable pub held_in : Filter → ℕ
held_in f = held_by f.phase f

-- the script test that reads its body is dead
abbrev pub is_script_dead : Filter → Bool
is_script_dead f = is_dead_in f.decider

-- nothing has gone out, and the body is kept
pub record Holds (f : Filter) (x : Response) (m : List ℕ) : Type 0 where
  pub unsent : is_sent x.judged m ≡ false
  pub hopeful : is_hopeless x.judged m (is_dead_in f.decider) ≡ false
  pub head : f.head.items ≡ x.bytes
  pub held : f.held.items ≡ m
  pub chunked : is_chunked_by f.framer ≡ x.chunked
  pub rest : kept_by f.framer ≡ []

-- the body goes out as it comes
pub record PassesOn (f : Filter) (x : Response) (m : List ℕ) : Type 0 where
  pub sent : is_sent x.judged m ≡ true
  pub chunked : is_chunked_by f.framer ≡ x.chunked
  pub rest : kept_by f.framer ≡ kept_of x.chunked m

-- no byte of it will, and none is kept
pub record Drops (f : Filter) (x : Response) (m : List ℕ) : Type 0 where
  pub over : is_hopeless x.judged m (is_dead_in f.decider) ≡ true

-- what its fields are in each phase
abbrev pub Stands : Phase → Filter → Response → List ℕ → Type 0
Stands phase.Idle f x m = ⊥
Stands phase.Holding f x m = Holds f x m
Stands phase.Passing f x m = PassesOn f x m
Stands phase.Dropping f x m = Drops f x m

-- it has read this prefix of the body of that response, and put what goes out of the response then
pub record HasRead (f : Filter) (x : Response) (m : List ℕ) : Type 0 where
  pub limit : x.judged.limit ≡ limit_of f
  pub decides : DeciderHasRead f.decider x.judged m
  pub stands : Stands f.phase f x m

-- it reads a response
pub record CanFeed (f : Filter) : Type 0 where
  pub x : Response
  pub m : List ℕ
  pub reads : HasRead f x m

-- it reads none
abbrev pub IsSpent : Filter → Type 0
IsSpent f = (x : Response) (m : List ℕ) → HasRead f x m → ⊥

-- the decider is new, and made for a response that is read for a script up to that limit
pub record IsMadeFor (decider : Decider) (most : ℕ) : Type 0 where
  pub h : Case
  pub reads : DeciderHasRead decider h []
  pub limit : h.limit ≡ most

-- the facts are those of a response that is read for a script up to that limit
pub record AreMadeFor (facts : Facts) (most : ℕ) : Type 0 where
  pub h : Case
  pub of_head : AreFactsOf facts h
  pub limit : h.limit ≡ most

-- what goes out at the end of the body that it reads, by the rule that decides
abbrev pub ended_by : Phase → Filter → Verdict → List ℕ
ended_by phase.Idle f verdict = reply_of verdict.rule
ended_by phase.Holding f verdict =
    if verdict.allow
    then f.head.items ++ (put_of (is_chunked_by f.framer) (kept_by f.framer) f.held.items
    ++ end_of (is_chunked_by f.framer) (kept_after (is_chunked_by f.framer) (kept_by f.framer) f.held.items))
    else reply_of verdict.rule
ended_by phase.Passing f verdict = end_of (is_chunked_by f.framer) (kept_by f.framer)
ended_by phase.Dropping f verdict = reply_of verdict.rule
