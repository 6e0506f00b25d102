-- What the parts of a value say of the fields that it is joined from.
use Rattle.std.proofs.Common.{◌≡◌, ℕ, List, codes, Some, sym, ap, ◌∙◌}
use Rattle.std.specs.List.{list_any}
use Rattle.orb_bytes.specs.Fields.{same_name}
use Rattle.header_values.specs.Joined.{joined}
use Rattle.header_values.specs.Cuts.{parts_of, parts_left_of}
use Rattle.header_values.specs.Questions.{first_passes, is_nosniff, is_coding, is_coded}

pub nosniff_by : (fields : List (List ℕ × List ℕ)) (value : List ℕ) (texts : List (List ℕ))
    → Some value ≡ joined fields (codes "X-Content-Type-Options") → parts_of value ≡ texts
    → first_passes (λ part. same_name part (codes "nosniff")) texts ≡ is_nosniff fields
unfolding is_nosniff
nosniff_by fields value texts whole cut =
    let test = λ (part : List ℕ). same_name part (codes "nosniff") in
    ap (first_passes test) (sym cut) ∙ ap (λ value. first_passes test (parts_left_of value)) whole

pub coded_by : (fields : List (List ℕ × List ℕ)) (value : List ℕ) → Some value ≡ joined fields (codes "Content-Encoding")
    → list_any is_coding (parts_of value) ≡ is_coded fields
unfolding is_coded
coded_by fields value whole = ap (λ value. list_any is_coding (parts_left_of value)) whole
