-- What is gathered and what is pushed, call after call.
use Rattle.std.proofs.Common.{◌≡◌, ℕ, ◌+◌, ◌≤◌, ◌<◌, List, [], ◌++◌, length, Result, Ok, Err, sym, ap, subst, ◌∙◌, inl, inr, arith, append_assoc, length-append}
use Rattle.std.proofs.lemmas.List.{append-nil}
use Rattle.orb_io.specs.Told.{Told, told_bytes, Gives, Delivers, IsPrefix, Rose}
use Rattle.orb_io.proofs.ToldLemmas.{IsPrefix-trans, IsPrefix-after}
use Rattle.body_filter.specs.declared.pushing.WriteFault.{WriteFault}
use Rattle.orb_engine.specs.declared.writer.Writer.{Writer}
use Rattle.orb_io.specs.Outboxes.{OutboxState, OnlyFills, outbox_room}
use Rattle.orb_engine.specs.Writing.{Passes, gathered_by}

-- what was put into the box is gathered
pub boxed : (given box box' before start owed more : List ℕ) → given ++ box ≡ before ++ start → box' ≡ box ++ more
    → start ++ more ≡ owed → given ++ box' ≡ before ++ owed
boxed given box box' before start owed more gave grew is =
    ap (λ t. given ++ t) grew ∙ sym (append_assoc given box more) ∙ ap (λ t. t ++ more) gave
    ∙ append_assoc before start more ∙ ap (λ t. before ++ t) is

-- a box with room doesn't fail
pub boxed-err : (b c : OutboxState) (start owed : List ℕ) (most : ℕ)
    → Gives (told_bytes b.bytes) (told_bytes c.bytes) start (λ all. IsPrefix all owed)
    → OnlyFills b c → Rose b.faults c.faults → b.faults ≡ 0 → length b.bytes + most < outbox_room
    → length owed ≤ length start + most → ⊥
boxed-err b c start owed most gives after rose no_faults room fits =
    let size : length c.bytes ≡ length b.bytes + length gives.more =
    ap length gives.gained.bytes ∙ length-append b.bytes gives.more in
    let (rest, is) = gives.holds in
    let whole : length owed ≡ (length start + length gives.more) + length rest =
    ap length is ∙ length-append (start ++ gives.more) rest ∙ ap (λ n. n + length rest) (length-append start gives.more) in
    elim after.full [
      | inl same ↦ absurd (omega (arith, same, no_faults, rose.1 (omega (arith, same, no_faults))))
      | inr full ↦ absurd (omega (arith, full))
    ]

-- after a flush, what was put went to the sink
pub direct : {T : Type 0} (P Q : T → Type 0) (f : (v : T) → P v → Q v) (r : Result T WriteFault) (w : Writer) (b c : Told)
    (given before start owed : List ℕ) → given ≡ before ++ start → gathered_by w ≡ [] → Delivers r b c start owed P
    → Gives b c given (Passes r w (before ++ owed) Q)
direct P Q f (Ok v) w b c given before start owed gave empty d = record {
  more = d.more;
  gained = d.gained;
  holds = (
    ap (λ t. (given ++ d.more) ++ t) empty ∙ append-nil (given ++ d.more) ∙ ap (λ t. t ++ d.more) gave
        ∙ append_assoc before start d.more ∙ ap (λ t. before ++ t) d.holds.0,
    f v d.holds.1,
  );
}
direct P Q f (Err e) w b c given before start owed gave empty d = record {
  more = d.more;
  gained = d.gained;
  holds = subst (λ (t : List ℕ). IsPrefix t (before ++ owed))
      (sym (ap (λ t. t ++ d.more) gave ∙ append_assoc before start d.more))
      (IsPrefix-after before (start ++ d.more) owed d.holds);
}

-- a flush that failed
pub flush-broken : (given box before start owed all : List ℕ) → given ++ box ≡ before ++ start → IsPrefix start owed
    → IsPrefix all (given ++ box) → IsPrefix all (before ++ owed)
flush-broken given box before start owed all gave grows within =
    IsPrefix-trans all (given ++ box) (before ++ owed) within
    (subst (λ (t : List ℕ). IsPrefix t (before ++ owed)) (sym gave) (IsPrefix-after before start owed grows))
