-- Comments: where they end, and that they end in one place.
use Rattle.std.proofs.Common.{◌≡◌, ℕ, suc, ◌+◌, ◌<◌, ◌≤◌, List, ◌∷◌, ◌++◌, length, get_or, take, drop, codes, sym, ap, ◌∙◌, inl, inr, length-append, append_assoc, None, Some, arith}
use Rattle.std.proofs.Math.ListN.{get_or-append}
use Rattle.std.proofs.Math.Seq.{drop-append_seam, drop-cons}
use Rattle.std.proofs.lemmas.List.{get_or-append-add, take-append-drop, length-take}
use Rattle.std.proofs.lemmas.Bool.{cases_order}
use Rattle.memchr.specs.Find.{OccursAt, FindsNeedle}
use Rattle.corb_sniffers.specs.Html.{EndsFirst}

-- what ends a comment
abbrev pub end : List ℕ
end = codes "-->"

-- the end stands after what is inside
pub end_stands : (inside rest : List ℕ) → OccursAt (inside ++ (end ++ rest)) end (length inside)
end_stands inside rest = record {
  fits = omega (arith, length-append inside (end ++ rest), length-append end rest);
  reads = λ j below. get_or-append-add inside (end ++ rest) j 0 ∙ get_or-append end rest 0 j below;
}

-- an occurrence in the first part of a text, and the other way round
pub occurs_within : (prefix rest : List ℕ) (k : ℕ) → k + length end ≤ length prefix → OccursAt (prefix ++ rest) end k → OccursAt prefix end k
occurs_within prefix rest k within there = record {
  fits = within;
  reads = λ j below. sym (get_or-append prefix rest 0 (k + j) (omega arith)) ∙ there.reads j below;
}

pub occurs_further : (prefix rest : List ℕ) (k : ℕ) → OccursAt prefix end k → OccursAt (prefix ++ rest) end k
occurs_further prefix rest k there =
    let fits = there.fits in
    record {
      fits = omega (arith, length-append prefix rest);
      reads = λ j below. get_or-append prefix rest 0 (k + j) (omega arith) ∙ there.reads j below;
    }

-- where two comments begin alike, what is inside them is as long
no_shorter : (inside other rest more : List ℕ) → EndsFirst other → inside ++ (end ++ rest) ≡ other ++ (end ++ more)
    → ¬ (length inside < length other)
no_shorter inside other rest more first same shorter =
    first (length inside) shorter
    (occurs_within (other ++ end) more (length inside) (omega (arith, length-append other end))
    (let there = end_stands inside rest in
    rw (same ∙ sym (append_assoc other end more)) at there))

pub same_inside : (inside other rest more : List ℕ) → EndsFirst inside → EndsFirst other
    → inside ++ (end ++ rest) ≡ other ++ (end ++ more) → rest ≡ more
same_inside inside other rest more one two same =
    let long : length inside ≡ length other = elim (cases_order (length inside) (length other)) [
      | inl equal ↦ equal
      | inr (inl less) ↦ absurd (no_shorter inside other rest more two same less)
      | inr (inr less) ↦ absurd (no_shorter other inside more rest one (sym same) less)
    ] in
    let whole : inside ++ end ++ rest ≡ other ++ end ++ more = append_assoc inside end rest ∙ same ∙ sym (append_assoc other end more) in
    sym (drop-append_seam (inside ++ end) rest)
    ∙ ap (λ t. drop (length (inside ++ end)) t) whole
    ∙ ap (λ n. drop n ((other ++ end) ++ more)) (omega (arith, length-append inside end, length-append other end))
    ∙ drop-append_seam (other ++ end) more

-- what a search for the end says
pub none_ends : (text : List ℕ) → FindsNeedle text end 0 None → (inside rest : List ℕ) → ¬ (text ≡ inside ++ (end ++ rest))
none_ends text none inside rest same =
    let stands = end_stands inside rest in
    let there : OccursAt text end (length inside) = rw (sym same) at stands in
    none (length inside) (omega arith) (omega (arith, there.fits)) there

pub found_ends : (text : List ℕ) (k : ℕ) → FindsNeedle text end 0 (Some k)
    → EndsFirst (take k text) × (text ≡ take k text ++ (end ++ drop (k + 3) text))
found_ends text k found =
    let fits = found.1.fits in
    let long : k + 3 ≤ length text = fits in
    let zeroth : k ≡ k + 0 = omega arith in
    let first_place : suc k ≡ k + 1 = omega arith in
    let second_place : suc (suc k) ≡ k + 2 = omega arith in
    let third_place : suc (suc (suc k)) ≡ k + 3 = omega arith in
    let one : get_or text k 0 ≡ 45 = ap (λ n. get_or text n 0) zeroth ∙ found.1.reads 0 (omega arith) in
    let two : get_or text (suc k) 0 ≡ 45 = ap (λ n. get_or text n 0) first_place ∙ found.1.reads 1 (omega arith) in
    let three : get_or text (suc (suc k)) 0 ≡ 62 = ap (λ n. get_or text n 0) second_place ∙ found.1.reads 2 (omega arith) in
    let rest : drop k text ≡ end ++ drop (k + 3) text =
    drop-cons text k 0 (omega arith)
    ∙ rw (one, drop-cons text (suc k) 0 (omega arith), two, drop-cons text (suc (suc k)) 0 (omega arith), three)
    (ap (λ n. 45 ∷ 45 ∷ 62 ∷ drop n text) third_place) in
    let cut : text ≡ take k text ++ (end ++ drop (k + 3) text) = sym (take-append-drop k text) ∙ ap (λ t. take k text ++ t) rest in
    (first cut, cut) where
      first : text ≡ take k text ++ (end ++ drop (k + 3) text) → EndsFirst (take k text)
      first cut j below there =
          let further = occurs_further (take k text ++ end) (drop (k + 3) text) j there in
          let here : OccursAt text end j = rw (append_assoc (take k text) end (drop (k + 3) text) ∙ sym cut) at further in
          found.0.before j (omega arith) (omega (arith, length-take k text)) here
