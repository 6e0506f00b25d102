-- How the bytes of a writer grow, write after write.
use Rattle.std.proofs.Common.{◌≡◌, ℕ, List, ◌++◌, take, drop, Option, None, Some, sym, ap, ◌∙◌, append_assoc}
use Rattle.std.proofs.lemmas.List.{take-append-drop}
use Rattle.std.specs.Io.KnownBytes.{Appends}

-- two writes, one after the other
pub Appends-twice : (a b c : Option (List ℕ)) (xs ys : List ℕ)
    → Appends a b xs → Appends b c ys → Appends a c (xs ++ ys)
Appends-twice None b c xs ys first second = tt
Appends-twice (Some a) None c xs ys first second = absurd first
Appends-twice (Some a) (Some b) None xs ys first second = absurd second
Appends-twice (Some a) (Some b) (Some c) xs ys first second = rw (second, first) (append_assoc a xs ys)

-- a text whose rest is cut once more
pub cut_again : (whole done rest : List ℕ) (n : ℕ) → whole ≡ done ++ rest
    → whole ≡ (done ++ take n rest) ++ drop n rest
cut_again whole done rest n cut =
    cut ∙ ap (λ xs. done ++ xs) (sym (take-append-drop n rest)) ∙ sym (append_assoc done (take n rest) (drop n rest))
