-- The fields of one name, one field after the other.
use Rattle.std.proofs.Common.{◌≡◌, ℕ, ◌+◌, ◌-◌, ◌<◌, ◌≤◌, Bool, true, false, List, [], ◌∷◌, ◌++◌, length, take, drop, get_or, All, slice_range, subst, length-drop, map, filter, sum_by, refl, sym, ap, ◌∙◌, append-nil, arith}
use Rattle.std.proofs.lemmas.List.{take_more, take_all, take-append-drop, map-append, length-take}
use Rattle.std.proofs.lemmas.List.Sums.{sum_by_push, sum_by-append}
use Rattle.std.proofs.lemmas.List.Elements.{filter-append, All-push, All-get_or}
use Rattle.orb_bytes.specs.Fields.{same_name, values_of}
use Rattle.header_values.specs.declared.fields.FieldSpan.{FieldSpan}
use Rattle.header_values.specs.Fields.{pair_at, pairs_of, field_size, IsFieldSpan, AreFields}

-- the values of a list of fields and one more
pub values_of-more : (fields : List (List ℕ × List ℕ)) (f : List ℕ × List ℕ) (name : List ℕ)
    → values_of (fields ++ f ∷ []) name ≡ values_of fields name ++ values_of (f ∷ []) name
values_of-more fields f name =
    let test : List ℕ × List ℕ → Bool = λ g. same_name g.0 name in
    let value : List ℕ × List ℕ → List ℕ = λ g. g.1 in
    ap (map value) (filter-append test fields (f ∷ [])) ∙ map-append value (filter test fields) (filter test (f ∷ []))

-- a field of the name adds its value
pub values_of-hit : (fields : List (List ℕ × List ℕ)) (f : List ℕ × List ℕ) (name : List ℕ) → same_name f.0 name ≡ true
    → values_of (fields ++ f ∷ []) name ≡ values_of fields name ++ f.1 ∷ []
values_of-hit fields f name same =
    let alone : values_of (f ∷ []) name ≡ f.1 ∷ [] = rw same refl in
    values_of-more fields f name ∙ ap (λ values. values_of fields name ++ values) alone

-- a field of another name adds none
pub values_of-miss : (fields : List (List ℕ × List ℕ)) (f : List ℕ × List ℕ) (name : List ℕ) → same_name f.0 name ≡ false
    → values_of (fields ++ f ∷ []) name ≡ values_of fields name
values_of-miss fields f name other =
    let none : values_of (f ∷ []) name ≡ [] = rw other refl in
    values_of-more fields f name ∙ ap (λ values. values_of fields name ++ values) none ∙ append-nil (values_of fields name)

-- the fields up to a place and the field there
pub pairs_of-more : (head : List ℕ) (spans : List FieldSpan) (i : ℕ) (s d : FieldSpan) → i < length spans → s ≡ get_or spans i d
    → pairs_of head (take (i + 1) spans) ≡ pairs_of head (take i spans) ++ pair_at head s ∷ []
pairs_of-more head spans i s d less is =
    ap (pairs_of head) (take_more spans i d less ∙ ap (λ t. take i spans ++ t ∷ []) (sym is))
    ∙ map-append (pair_at head) (take i spans) (s ∷ [])

-- the fields up to a place are of the head, and take so many bytes
pub record OfHeadTo (head : List ℕ) (spans : List FieldSpan) (i size : ℕ) : Type 0 where
  pub within : All (IsFieldSpan (length head)) (take i spans)
  pub sum : size ≡ sum_by field_size (pairs_of head (take i spans))

length-between : (text : List ℕ) (a b : ℕ) → b ≤ length text → length (slice_range text a b) ≡ b - a
length-between text a b within = omega (arith, length-take (b - a) (drop a text), length-drop a text)

pub OfHeadTo-more : (head : List ℕ) (spans : List FieldSpan) (i size size' : ℕ) (s d : FieldSpan) → i < length spans → s ≡ get_or spans i d
    → IsFieldSpan (length head) s → size' ≡ size + (s.name_end - s.name_start + (s.value_end - s.value_start) + 2)
    → OfHeadTo head spans i size → OfHeadTo head spans (i + 1) size'
OfHeadTo-more head spans i size size' s d less is within more before =
    let longer : take (i + 1) spans ≡ take i spans ++ s ∷ [] = take_more spans i d less ∙ ap (λ t. take i spans ++ t ∷ []) (sym is) in
    let name = length-between head s.name_start s.name_end within.name_within in
    let value = length-between head s.value_start s.value_end within.value_within in
    let sizes : sum_by field_size (pairs_of head (take (i + 1) spans)) ≡ sum_by field_size (pairs_of head (take i spans)) + field_size (pair_at head s) =
    ap (sum_by field_size) (pairs_of-more head spans i s d less is) ∙ sum_by_push field_size (pairs_of head (take i spans)) (pair_at head s) in
    record {
      within = subst (All (IsFieldSpan (length head))) (sym longer) (All-push (IsFieldSpan (length head)) (take i spans) s before.within within);
      sum = omega (arith, before.sum);
    }

-- fields up to a place take no more than all of them
sums_within : (head : List ℕ) (spans : List FieldSpan) (i : ℕ)
    → sum_by field_size (pairs_of head (take i spans)) ≤ sum_by field_size (pairs_of head spans)
sums_within head spans i =
    let parts : pairs_of head spans ≡ pairs_of head (take i spans) ++ pairs_of head (drop i spans) =
    ap (pairs_of head) (sym (take-append-drop i spans)) ∙ map-append (pair_at head) (take i spans) (drop i spans) in
    omega (arith, ap (sum_by field_size) parts, sum_by-append field_size (pairs_of head (take i spans)) (pairs_of head (drop i spans)))

-- each span of a head lies in it
pub AreFields-within : (head : List ℕ) (spans : List FieldSpan) (i : ℕ) (s d : FieldSpan) → i < length spans → s ≡ get_or spans i d
    → AreFields head spans → IsFieldSpan (length head) s
AreFields-within head spans i s d less is all =
    subst (IsFieldSpan (length head)) (sym is) (All-get_or (IsFieldSpan (length head)) spans i d less all.within)

-- the head has room for those up to a place and the next
pub AreFields-room : (head : List ℕ) (spans : List FieldSpan) (i size : ℕ) (s d : FieldSpan) → i < length spans → s ≡ get_or spans i d
    → OfHeadTo head spans i size → AreFields head spans
    → size + (s.name_end - s.name_start + (s.value_end - s.value_start) + 2) ≤ length head
AreFields-room head spans i size s d less is before all =
    let within = AreFields-within head spans i s d less is all in
    let after = OfHeadTo-more head spans i size (size + (s.name_end - s.name_start + (s.value_end - s.value_start) + 2)) s d less is within refl before in
    omega (arith, after.sum, sums_within head spans (i + 1), all.fit)

pub OfHeadTo-all : (head : List ℕ) (spans : List FieldSpan) (i size : ℕ) → length spans ≤ i → size ≤ length head
    → OfHeadTo head spans i size → AreFields head spans
OfHeadTo-all head spans i size over fits before =
    let all : take i spans ≡ spans = take_all i spans over in
    record {
      within = subst (All (IsFieldSpan (length head))) all before.within;
      fit = subst (λ part. sum_by field_size (pairs_of head part) ≤ length head) all (let same = before.sum in omega arith);
    }
