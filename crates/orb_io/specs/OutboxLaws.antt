-- A full box stays full: the laws of `OnlyFills`.
use Rattle.std.proofs.Common.{refl, inl, inr, arith, ◌∙◌}
use Rattle.orb_io.specs.Outboxes.{OutboxState, OnlyFills}

pub OnlyFills-same : (b : OutboxState) → OnlyFills b b
OnlyFills-same b = record { more = omega arith; full = inl refl }

pub OnlyFills-twice : (b c d : OutboxState) → OnlyFills b c → OnlyFills c d → OnlyFills b d
OnlyFills-twice b c d first second = record {
  more = omega (arith, first.more, second.more);
  full = elim second.full [
    | inr full ↦ inr full
    | inl same ↦ elim first.full [
      | inl before ↦ inl (same ∙ before)
      | inr full ↦ inr (omega (arith, full, second.more))
    ]
  ];
}
