-- Where a text may end.
use Rattle.std.proofs.Common.{◌≡◌, Bool, true, false, ◌&&◌, List, [], ◌∷◌, reverse, length, refl, sym, ap, ◌∙◌, arith, ◌==◌}
use Rattle.std.proofs.lemmas.List.{length-reverse}
use Rattle.std.proofs.lemmas.Bool.Decides.{nat_tests}
use Rattle.json_recogniser.specs.declared.states.Container.{Container}
use Rattle.json_recogniser.specs.declared.states.Container.TheVariants.{Array, Object}
use Rattle.json_recogniser.specs.declared.states.State.{State}
use Rattle.json_recogniser.specs.declared.states.State.TheVariants as state
use Rattle.json_recogniser.specs.declared.states.Part.TheVariants as part
use Rattle.json_recogniser.specs.declared.states.Letters.TheVariants as letters
use Rattle.json_recogniser.specs.Reading.{after_chars, after_items, after_contents}
use Rattle.json_recogniser.specs.Residuals.{residual, may_end}

-- nothing is open
abbrev pub is_bare : List Container → Bool
is_bare [] = true
is_bare (kind ∷ marks) = false

pub ends_at : (s : State) (marks : List Container) → residual s marks [] ≡ (may_end s && is_bare marks)
unfolding after_chars after_items after_contents
ends_at state.Value marks = refl
ends_at state.First [] = refl
ends_at state.First (Array ∷ marks) = refl
ends_at state.First (Object ∷ marks) = refl
ends_at state.Item [] = refl
ends_at state.Item (Array ∷ marks) = refl
ends_at state.Item (Object ∷ marks) = refl
ends_at state.Colon marks = refl
ends_at state.After [] = refl
ends_at state.After (kind ∷ marks) = refl
ends_at (state.Text r) marks = refl
ends_at (state.Escape r) marks = refl
ends_at (state.Hex r more) marks = refl
ends_at (state.Number part.Minus) marks = refl
ends_at (state.Number part.Zero) [] = refl
ends_at (state.Number part.Zero) (kind ∷ marks) = refl
ends_at (state.Number part.Integer) [] = refl
ends_at (state.Number part.Integer) (kind ∷ marks) = refl
ends_at (state.Number part.Point) marks = refl
ends_at (state.Number part.Fraction) [] = refl
ends_at (state.Number part.Fraction) (kind ∷ marks) = refl
ends_at (state.Number part.E) marks = refl
ends_at (state.Number part.Sign) marks = refl
ends_at (state.Number part.Exponent) [] = refl
ends_at (state.Number part.Exponent) (kind ∷ marks) = refl
ends_at (state.Word letters.Alse) marks = refl
ends_at (state.Word letters.Lse) marks = refl
ends_at (state.Word letters.Se) marks = refl
ends_at (state.Word letters.E) marks = refl
ends_at (state.Word letters.Rue) marks = refl
ends_at (state.Word letters.Ue) marks = refl
ends_at (state.Word letters.Ull) marks = refl
ends_at (state.Word letters.Ll) marks = refl
ends_at (state.Word letters.L) marks = refl
ends_at state.Dead marks = refl

pub bare_reverse : (marks : List Container) (empty : Bool) → empty ≡ (length marks == 0) → empty ≡ is_bare (reverse marks)
bare_reverse marks empty is = is ∙ ap (λ n. n == 0) (sym (length-reverse marks)) ∙ by_length (reverse marks) where
  by_length : (marks : List Container) → (length marks == 0) ≡ is_bare marks
  by_length [] = refl
  by_length (kind ∷ marks) = grind (arith, nat_tests)
