-- How much a further piece lets out of a filter, and the end.
use Rattle.std.proofs.Common.{◌≡◌, ℕ, ◌+◌, ◌*◌, ◌≤◌, Bool, true, false, List, ◌++◌, length, refl, sym, ap, ◌∙◌, arith, length-append}
use Rattle.std.proofs.lemmas.Bool.{false≢true}
use Rattle.response_rules.specs.declared.deciding.Decider.{Decider}
use Rattle.response_rules.specs.Heads.{Case}
use Rattle.response_rules.specs.Tables.{rule_of}
use Rattle.response_rules.specs.Settled.{is_sent, is_hopeless}
use Rattle.response_rules.specs.Reads.{HasRead as DeciderHasRead, is_script_dead as is_dead_in}
use Rattle.response_rules.proofs.SettledLemmas.{sent-allows}
use Rattle.response_rules.proofs.HopelessLemmas.{hopeless-blocks}
use Rattle.body_filter.specs.Responses.{Response, output_so_far, whole_output}
use Rattle.body_filter.specs.Reads.{HasRead, held_in, held_by}
use Rattle.body_filter.specs.declared.filtering.Filter.{Filter}
use Rattle.body_filter.specs.declared.phases.Phase.{Phase}
use Rattle.body_filter.specs.declared.phases.Phase.TheVariants as phase
use Rattle.body_filter.proofs.FilterLemmas.{so_far-unsent, dropped-blocks}
use Rattle.body_filter.proofs.LawLemmas.{so_far-length, output-length, sent-feeds, sent-ends, whole-blocked}
use Rattle.body_filter.proofs.PhaseLemmas.{holds-of, passes-of, drops-of, idle-spent}
use Rattle.body_filter.proofs.ReplyLemmas.{reply-short}

-- what is hopeless is never sent
never-sent : (d : Decider) (h : Case) (m p : List ℕ) → DeciderHasRead d h m → is_hopeless h m (is_dead_in d) ≡ true
    → is_sent h (m ++ p) ≡ false
never-sent d h m p decides over = by (is_sent h (m ++ p)) refl
  where
    by : (b : Bool) → is_sent h (m ++ p) ≡ b → is_sent h (m ++ p) ≡ false
    by false is = is
    by true is = absurd (false≢true (sym (hopeless-blocks d h m p decides over) ∙ sent-allows h (m ++ p) is))

-- how much is held, by the phase
held-is : (f : Filter) (q : Phase) → f.phase ≡ q → held_in f ≡ held_by q f
unfolding held_in
held-is f q is = ap (λ (q : Phase). held_by q f) is

-- the head, twice what is held and twice the piece
pub feeds-short : (f : Filter) (x : Response) (m p : List ℕ) → HasRead f x m
    → length (output_so_far x (m ++ p)) ≤ length (output_so_far x m) + length x.bytes + 2 * (held_in f + length p)
feeds-short f x m p r = by f.phase refl
  where
    by : (q : Phase) → f.phase ≡ q
        → length (output_so_far x (m ++ p)) ≤ length (output_so_far x m) + length x.bytes + 2 * (held_in f + length p)
    by phase.Idle is = absurd (idle-spent f is x m r)
    by phase.Holding is =
        omega (arith, held-is f phase.Holding is, ap length (holds-of f x m is r).held, so_far-length x (m ++ p), length-append m p)
    by phase.Passing is =
        let s = passes-of f x m is r in
        omega (arith, held-is f phase.Passing is, ap length s.rest, sent-feeds x m p s.sent)
    by phase.Dropping is =
        let s = drops-of f x m is r in
        rw (so_far-unsent x (m ++ p) (never-sent f.decider x.judged m p r.decides s.over)) (omega arith)

-- and the end at most 128 bytes besides
pub ends-short : (f : Filter) (x : Response) (m : List ℕ) → HasRead f x m
    → length (whole_output x m) ≤ length (output_so_far x m) + length x.bytes + 2 * held_in f + 128
ends-short f x m r = by f.phase refl
  where
    by : (q : Phase) → f.phase ≡ q
        → length (whole_output x m) ≤ length (output_so_far x m) + length x.bytes + 2 * held_in f + 128
    by phase.Idle is = absurd (idle-spent f is x m r)
    by phase.Holding is =
        omega (arith, held-is f phase.Holding is, ap length (holds-of f x m is r).held, output-length x m)
    by phase.Passing is =
        let s = passes-of f x m is r in
        omega (arith, held-is f phase.Passing is, ap length s.rest, sent-ends x m s.sent)
    by phase.Dropping is =
        let s = drops-of f x m is r in
        rw (whole-blocked x m (dropped-blocks f.decider x.judged m r.decides s.over)) (omega (arith, reply-short (rule_of x.judged m)))
