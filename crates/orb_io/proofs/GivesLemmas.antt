-- What holds of all that a sink was given, call after call.
use Rattle.std.proofs.Common.{◌≡◌, ℕ, List, [], ◌++◌, Result, Ok, Err, OnOk, sym, ap, ◌∙◌, subst, append_assoc}
use Rattle.std.proofs.lemmas.List.{append-nil}
use Rattle.orb_io.specs.Told.{Told, Agrees, Gains, GainsPrefix, Gives, Delivers, IsPrefix, Pushes}
use Rattle.orb_io.proofs.ToldLemmas.{Gains-none, Gains-twice, IsPrefix-after}

pub Gives-of : (old new : Told) (given more : List ℕ) (P : List ℕ → Type 0) → Gains old new more → P (given ++ more)
    → Gives old new given P
Gives-of old new given more P gained holds = record { more = more; gained = gained; holds = holds }

-- nothing was pushed
pub Gives-none : (told : Told) (given : List ℕ) (P : List ℕ → Type 0) → Agrees told → P given → Gives told told given P
Gives-none told given P agrees holds = record {
  more = [];
  gained = Gains-none told agrees;
  holds = subst P (sym (append-nil given)) holds;
}

-- what follows from what holds
pub Gives-weaker : (old new : Told) (given : List ℕ) (P Q : List ℕ → Type 0)
    → ((more : List ℕ) → P (given ++ more) → Q (given ++ more)) → Gives old new given P → Gives old new given Q
Gives-weaker old new given P Q weaker gives = record {
  more = gives.more;
  gained = gives.gained;
  holds = weaker gives.more gives.holds;
}

-- one call after another
pub Gives-then : (a b c : Told) (given : List ℕ) (P Q : List ℕ → Type 0) → Gives a b given P
    → ((more : List ℕ) → P (given ++ more) → Gives b c (given ++ more) Q) → Gives a c given Q
Gives-then a b c given P Q first second =
    let next = second first.more first.holds in
    record {
      more = first.more ++ next.more;
      gained = Gains-twice a b c first.more next.more first.gained next.gained;
      holds = subst Q (append_assoc given first.more next.more) next.holds;
    }

-- a push of what was not given yet of what is owed
pub Delivers-fault : (old new : Told) (given bytes owed : List ℕ) → GainsPrefix old new bytes → given ++ bytes ≡ owed
    → Gives old new given (λ all. IsPrefix all owed)
Delivers-fault old new given bytes owed pushed is = record {
  more = pushed.0;
  gained = pushed.2;
  holds = rw (← is) (IsPrefix-after given pushed.0 bytes pushed.1);
}

pub Delivers-put : {T E : Type 0} (old new : Told) (r : Result T E) (given bytes owed : List ℕ) (A : Type 0)
    → Pushes r old new bytes → given ++ bytes ≡ owed → OnOk r A → Delivers r old new given owed (λ _. A)
Delivers-put old new (Ok value) given bytes owed A pushed is holds =
    record { more = bytes; gained = pushed; holds = (is, holds) }
Delivers-put old new (Err fault) given bytes owed A pushed is holds = Delivers-fault old new given bytes owed pushed is

-- what follows after an `Ok`
pub Delivers-on_ok : {T E : Type 0} (old new : Told) (r : Result T E) (given owed : List ℕ) (A B : Type 0)
    → Delivers r old new given owed (λ _. A) → (A → B) → OnOk r B
Delivers-on_ok old new (Ok value) given owed A B delivers follows = follows delivers.holds.1
Delivers-on_ok old new (Err fault) given owed A B delivers follows = tt

-- the same of other bytes and another fact
pub Delivers-as : {T E : Type 0} (old new : Told) (r : Result T E) (given given' owed owed' : List ℕ) (P Q : T → Type 0)
    → given' ≡ given → owed' ≡ owed → ((value : T) → P value → Q value) → Delivers r old new given owed P
    → Delivers r old new given' owed' Q
Delivers-as old new (Ok value) given given' owed owed' P Q same_given same_owed follows d = record {
  more = d.more;
  gained = d.gained;
  holds = (ap (λ t. t ++ d.more) same_given ∙ d.holds.0 ∙ sym same_owed, follows value d.holds.1);
}
Delivers-as old new (Err fault) given given' owed owed' P Q same_given same_owed follows d = record {
  more = d.more;
  gained = d.gained;
  holds = rw (same_given, same_owed) d.holds;
}
