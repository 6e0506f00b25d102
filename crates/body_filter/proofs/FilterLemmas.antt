-- What a filter knows of a response.
use Rattle.std.proofs.Common.{◌≡◌, ℕ, ◌%◌, Bool, true, false, List, [], ◌++◌, length, if◌then◌else◌, refl, sym, ap, ◌∙◌}
use Rattle.std.proofs.lemmas.List.{append-nil}
use Rattle.response_rules.specs.declared.deciding.Decider.{Decider}
use Rattle.response_rules.specs.Rules.{is_allowing}
use Rattle.response_rules.specs.Heads.{Case}
use Rattle.response_rules.specs.Tables.{rule_of}
use Rattle.response_rules.specs.Reads.{HasRead as DeciderHasRead, is_script_dead as is_dead_in}
use Rattle.response_rules.specs.Settled.{is_sent, is_hopeless}
use Rattle.response_rules.proofs.HopelessLemmas.{hopeless-unsent, hopeless-blocks}
use Rattle.http_exchange.specs.Chunks.{chunk_size, body_so_far}
use Rattle.body_filter.specs.Responses.{Response, output_so_far, held_of}

-- nothing, or the head and the body
pub so_far-unsent : (x : Response) (m : List ℕ) → is_sent x.judged m ≡ false → output_so_far x m ≡ []
unfolding output_so_far
so_far-unsent x m unsent = rw unsent refl

pub so_far-sent : (x : Response) (m : List ℕ) → is_sent x.judged m ≡ true → output_so_far x m ≡ x.bytes ++ body_so_far x.chunked m
unfolding output_so_far
so_far-sent x m sent = rw sent refl

-- what is hopeless is blocked
pub dropped-blocks : (d : Decider) (h : Case) (m : List ℕ) → DeciderHasRead d h m → is_hopeless h m (is_dead_in d) ≡ true
    → is_allowing (rule_of h m) ≡ false
dropped-blocks d h m decides over =
    ap (λ t. is_allowing (rule_of h t)) (sym (append-nil m)) ∙ hopeless-blocks d h m [] decides over

-- how much is held
pub held-holding : (x : Response) (m : List ℕ) (dead : Bool) → is_sent x.judged m ≡ false → is_hopeless x.judged m dead ≡ false
    → held_of x m dead ≡ length m
unfolding held_of
held-holding x m dead unsent hopeful = rw (unsent, hopeful) refl

pub held-passing : (x : Response) (m : List ℕ) (dead : Bool) → is_sent x.judged m ≡ true
    → held_of x m dead ≡ (if x.chunked then length m % chunk_size else 0)
unfolding held_of
held-passing x m dead sent = rw sent refl

pub held-dropping : (x : Response) (m : List ℕ) (dead : Bool) → is_hopeless x.judged m dead ≡ true → held_of x m dead ≡ 0
unfolding held_of
held-dropping x m dead over = rw (hopeless-unsent x.judged m dead over, over) refl
