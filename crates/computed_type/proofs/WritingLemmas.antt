-- A text put into lowercase piece by piece.
use Rattle.std.proofs.Common.{◌≡◌, ℕ, List, [], ◌∷◌, ◌++◌, Ok, Err, sym, ap, subst, ◌∙◌, append_assoc}
use Rattle.std.proofs.lemmas.List.{map-append}
use Rattle.std.specs.Char.{to_ascii_lowercase}
use Rattle.std.specs.Str.{str_to_ascii_lowercase}
use Rattle.orb_bytes.specs.Ascii.{solidus}
use Rattle.orb_io.specs.Calls.{Puts}
use Rattle.orb_io.specs.declared.outside.Failed.{Failed}
use Rattle.orb_io.specs.declared.outside.Sink.{Ghosts}
use Rattle.orb_io.proofs.CallLemmas.{Puts-then, Puts-first}

-- `/` failed after a type
pub solidus-fault : {O : Type 0} (g : Ghosts O) (a b c : O) (fault other : Failed) (main sub : List ℕ) → (g.kept a b → g.kept b c → g.kept a c)
    → Puts {T = Unit {0}} {E = Failed} g (Ok tt) a b main → Puts {T = Unit {0}} g (Err fault) b c (solidus ∷ [])
    → Puts {T = Unit {0}} g (Err other) a c (main ++ (solidus ∷ sub))
solidus-fault g a b c fault other main sub kept before puts =
    subst (λ (t : List ℕ). Puts {T = Unit {0}} g (Err other) a c t) (append_assoc main (solidus ∷ []) sub)
    (Puts-first {T = Unit {0}} g fault other a c (main ++ (solidus ∷ [])) sub
    (Puts-then g tt (Err fault) a b c main (solidus ∷ []) kept before puts))

-- what comes before the rest of the text was put
pub record Lowered {O : Type 0} (g : Ghosts O) (a b : O) (text rest : List ℕ) : Type 0 where
  pub done : List ℕ
  pub is : text ≡ done ++ rest
  pub puts : Puts {T = Unit {0}} {E = Failed} g (Ok tt) a b (str_to_ascii_lowercase done)

pub lowered-more : {O : Type 0} (g : Ghosts O) (a b c : O) (text rest piece after : List ℕ) → (g.kept a b → g.kept b c → g.kept a c)
    → Lowered g a b text rest → rest ≡ piece ++ after → Puts {T = Unit {0}} {E = Failed} g (Ok tt) b c (str_to_ascii_lowercase piece)
    → Lowered g a c text after
lowered-more g a b c text rest piece after kept before cut puts = record {
  done = before.done ++ piece;
  is = before.is ∙ ap (λ t. before.done ++ t) cut ∙ sym (append_assoc before.done piece after);
  puts = subst (λ (t : List ℕ). Puts {T = Unit {0}} {E = Failed} g (Ok tt) a c t) (sym (map-append to_ascii_lowercase before.done piece))
      (Puts-then g tt (Ok tt) a b c (str_to_ascii_lowercase before.done) (str_to_ascii_lowercase piece) kept before.puts puts);
}

pub lowered-fault : {O : Type 0} (g : Ghosts O) (a b c : O) (fault other : Failed) (text rest piece after : List ℕ)
    → (g.kept a b → g.kept b c → g.kept a c) → Lowered g a b text rest → rest ≡ piece ++ after
    → Puts {T = Unit {0}} g (Err fault) b c (str_to_ascii_lowercase piece)
    → Puts {T = Unit {0}} g (Err other) a c (str_to_ascii_lowercase text)
lowered-fault g a b c fault other text rest piece after kept before cut puts =
    let lower = str_to_ascii_lowercase in
    let all : lower text ≡ (lower before.done ++ lower piece) ++ lower after =
    ap lower (before.is ∙ ap (λ t. before.done ++ t) cut)
    ∙ map-append to_ascii_lowercase before.done (piece ++ after)
    ∙ ap (λ t. lower before.done ++ t) (map-append to_ascii_lowercase piece after)
    ∙ sym (append_assoc (lower before.done) (lower piece) (lower after)) in
    subst (λ (t : List ℕ). Puts {T = Unit {0}} g (Err other) a c t) (sym all)
    (Puts-first {T = Unit {0}} g fault other a c (lower before.done ++ lower piece) (lower after)
    (Puts-then g tt (Err fault) a b c (lower before.done) (lower piece) kept before.puts puts))
