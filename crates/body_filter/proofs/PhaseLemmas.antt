-- What a filter has read, phase by phase, and how far a response is judged.
use Rattle.std.proofs.Common.{◌≡◌, ℕ, Bool, true, false, List, [], Result, Ok, Err, OnOk, refl, sym, subst, arith}
use Rattle.response_rules.specs.declared.deciding.Decider.{Decider}
use Rattle.response_rules.specs.Heads.{Case}
use Rattle.response_rules.specs.Reads.{HasRead as DeciderHasRead}
use Rattle.body_filter.specs.declared.filtering.Filter.{Filter}
use Rattle.body_filter.specs.declared.judging.Judgement.TheVariants as judgement
use Rattle.body_filter.specs.declared.phases.Phase.{Phase}
use Rattle.body_filter.specs.declared.phases.Phase.TheVariants as phase
use Rattle.body_filter.specs.Responses.{Response}
use Rattle.body_filter.specs.Judged.{judged}
use Rattle.body_filter.specs.Reads.{HasRead, IsSpent, IsMadeFor, Holds, PassesOn, Drops, Stands, limit_of}

-- the phases
pub reads-holding : (f : Filter) (x : Response) (m : List ℕ) → x.judged.limit ≡ limit_of f → DeciderHasRead f.decider x.judged m
    → f.phase ≡ phase.Holding → Holds f x m → HasRead f x m
reads-holding f x m limit decides is stands = record {
  limit = limit;
  decides = decides;
  stands = let P : Phase → Type 0 = λ p. Stands p f x m in subst P (sym is) stands;
}

pub reads-passing : (f : Filter) (x : Response) (m : List ℕ) → x.judged.limit ≡ limit_of f → DeciderHasRead f.decider x.judged m
    → f.phase ≡ phase.Passing → PassesOn f x m → HasRead f x m
reads-passing f x m limit decides is stands = record {
  limit = limit;
  decides = decides;
  stands = let P : Phase → Type 0 = λ p. Stands p f x m in subst P (sym is) stands;
}

pub reads-dropping : (f : Filter) (x : Response) (m : List ℕ) → x.judged.limit ≡ limit_of f → DeciderHasRead f.decider x.judged m
    → f.phase ≡ phase.Dropping → Drops f x m → HasRead f x m
reads-dropping f x m limit decides is stands = record {
  limit = limit;
  decides = decides;
  stands = let P : Phase → Type 0 = λ p. Stands p f x m in subst P (sym is) stands;
}

pub holds-of : (f : Filter) (x : Response) (m : List ℕ) → f.phase ≡ phase.Holding → HasRead f x m → Holds f x m
holds-of f x m is r = let P : Phase → Type 0 = λ p. Stands p f x m in subst P is r.stands

pub passes-of : (f : Filter) (x : Response) (m : List ℕ) → f.phase ≡ phase.Passing → HasRead f x m → PassesOn f x m
passes-of f x m is r = let P : Phase → Type 0 = λ p. Stands p f x m in subst P is r.stands

pub drops-of : (f : Filter) (x : Response) (m : List ℕ) → f.phase ≡ phase.Dropping → HasRead f x m → Drops f x m
drops-of f x m is r = let P : Phase → Type 0 = λ p. Stands p f x m in subst P is r.stands

pub idle-spent : (f : Filter) → f.phase ≡ phase.Idle → IsSpent f
idle-spent f is = λ x m r. let P : Phase → Type 0 = λ p. Stands p f x m in subst P is r.stands

-- the limit that a decider was made with
pub made-limit : (d : Decider) (most : ℕ) (h : Case) → IsMadeFor d most → DeciderHasRead d h [] → h.limit ≡ most
made-limit d most h made r = omega (arith, r.counted.left, made.reads.counted.left, made.limit)

-- the judgement
pub judged-allowed : (sent hopeless : Bool) → judgement.Allowed ≡ judged sent hopeless → sent ≡ true
judged-allowed true hopeless is = refl
judged-allowed false true is = cc
judged-allowed false false is = cc

pub judged-blocked : (sent hopeless : Bool) → judgement.Blocked ≡ judged sent hopeless → (sent ≡ false) × (hopeless ≡ true)
judged-blocked true hopeless is = absurd (cc)
judged-blocked false true is = (refl, refl)
judged-blocked false false is = absurd (cc)

pub judged-open : (sent hopeless : Bool) → judgement.Open ≡ judged sent hopeless → (sent ≡ false) × (hopeless ≡ false)
judged-open true hopeless is = absurd (cc)
judged-open false true is = absurd (cc)
judged-open false false is = (refl, refl)

-- a fact that holds whatever a call answers
pub on_ok : {T E P : Type 0} (r : Result T E) → P → OnOk r P
on_ok (Ok done) p = p
on_ok (Err failed) p = tt

-- two facts after an Ok
pub on_ok-both : {T E A B C : Type 0} (r : Result T E) → OnOk r A → OnOk r B → (A → B → C) → OnOk r C
on_ok-both (Ok done) a b f = f a b
on_ok-both (Err failed) a b f = tt
