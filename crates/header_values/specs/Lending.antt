-- A scratch after a text that was lent from it.
use Rattle.std.specs.Prelude.{◌≡◌, ℕ, ⊤}
use Rattle.std.specs.Borrow.{MutBor, Fml, follows_so}
use Rattle.header_values.specs.contracts.scratch.Scratch.{the_row}
use mathlib.Core.Option.{none}

-- once the text is given back, the scratch has the room that it had
abbrev pub KeepsRoom : MutBor ℕ → Fml
KeepsRoom scratch =
    follows_so the_row the_row scratch.ghost_name none (λ _ _. ⊤) (λ room. room ≡ scratch.now)
