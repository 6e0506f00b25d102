-- Fields state one essence at most.
use Rattle.std.proofs.Common.{◌≡◌, ℕ, List, Option, Some, None, refl, sym, ap, ◌∙◌}
use Rattle.std.proofs.lemmas.Option.{none-some, same_Some}
use Rattle.header_values.proofs.ExtractLemmas.{one_extracted}
use Rattle.response_rules.specs.Heads.{HasOneEssence}

same_pair : (a b x y : List ℕ) → a ≡ x → b ≡ y → ◌≡◌ {A = Option (List ℕ × List ℕ)} (Some (a, b)) (Some (x, y))
same_pair a b x y p q = rw (p, q) refl

pub one_essence : (fields : List (List ℕ × List ℕ)) → HasOneEssence fields
one_essence fields None None s t = refl
one_essence fields None (Some e) s (mime, t, main, sub) = absurd (none-some mime (one_extracted fields None (Some mime) s t))
one_essence fields (Some e) None (mime, s, main, sub) t = absurd (none-some mime (one_extracted fields None (Some mime) t s))
one_essence fields (Some e) (Some f) (mime, s, main, sub) (mime', t, main', sub') =
    let same : mime ≡ mime' = same_Some mime mime' (one_extracted fields (Some mime) (Some mime') s t) in
    same_pair e.0 e.1 f.0 f.1
    (sym main ∙ (ap (λ m. m.main) same ∙ main')) (sym sub ∙ (ap (λ m. m.sub) same ∙ sub'))
