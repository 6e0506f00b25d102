-- A value is joined to those before it.
use Rattle.std.proofs.Common.{◌≡◌, ℕ, ◌+◌, ◌<◌, ◌≤◌, Bool, true, false, List, [], ◌∷◌, ◌++◌, length, take, get_or, sum_by, Some, None, if◌then◌else◌, refl, sym, ap, subst, ◌∙◌, append_assoc, length-append, arith}
use Rattle.std.proofs.lemmas.List.{take-map, take_all}
use Rattle.std.proofs.lemmas.List.Sums.{sum_by_push, sum_by-take-le}
use Rattle.orb_bytes.specs.Fields.{same_name, values_of}
use Rattle.header_values.specs.declared.fields.FieldSpan.{FieldSpan}
use Rattle.header_values.specs.Fields.{pair_at, pairs_of, field_size}
use Rattle.header_values.specs.Joined.{comma_joined, joined_texts, joined, separator}
use Rattle.header_values.proofs.FieldLemmas.{values_of-hit, values_of-miss, pairs_of-more}

-- what is written of these values: nothing of none, and else the values joined
pub IsWritten : Bool → List ℕ → List (List ℕ) → Type 0
IsWritten false text values = (values ≡ []) × (text ≡ [])
IsWritten true text values =
    (first : List ℕ) × (others : List (List ℕ)) × (values ≡ first ∷ others) × (text ≡ comma_joined (first ∷ others))

comma_joined-more : (first : List ℕ) (others : List (List ℕ)) (value : List ℕ)
    → comma_joined (first ∷ (others ++ value ∷ [])) ≡ comma_joined (first ∷ others) ++ (44 ∷ (32 ∷ value))
comma_joined-more first [] value = refl
comma_joined-more first (next ∷ others) value =
    ap (λ rest. first ++ (44 ∷ (32 ∷ rest))) (comma_joined-more next others value)
    ∙ sym (append_assoc first (44 ∷ (32 ∷ comma_joined (next ∷ others))) (44 ∷ (32 ∷ value)))

IsWritten-more : (found : Bool) (text value : List ℕ) (values : List (List ℕ)) → IsWritten found text values
    → IsWritten true (text ++ (separator found ++ value)) (values ++ value ∷ [])
unfolding IsWritten
IsWritten-more false text value values (none, blank) = (value, [], rw none refl, rw blank refl)
IsWritten-more true text value values (first, others, are, is) =
    (first, others ++ value ∷ [], rw are refl, ap (λ t. t ++ (44 ∷ (32 ∷ value))) is ∙ sym (comma_joined-more first others value))

pub IsWritten-is : (found : Bool) (text : List ℕ) (values : List (List ℕ)) → IsWritten found text values
    → (if found then Some text else None) ≡ joined_texts values
unfolding IsWritten
IsWritten-is false text values (none, blank) = rw none refl
IsWritten-is true text values (first, others, are, is) = rw (are, is) refl

-- the text of the fields up to a place
pub record WrittenTo (head : List ℕ) (spans : List FieldSpan) (name : List ℕ) (i : ℕ) (found : Bool) (text : List ℕ) : Type 0 where
  pub written : IsWritten found text (values_of (pairs_of head (take i spans)) name)
  pub fits : length text ≤ sum_by field_size (pairs_of head (take i spans))

sizes-more : (head : List ℕ) (spans : List FieldSpan) (i : ℕ) (s d : FieldSpan) → i < length spans → s ≡ get_or spans i d
    → sum_by field_size (pairs_of head (take (i + 1) spans))
    ≡ sum_by field_size (pairs_of head (take i spans)) + field_size (pair_at head s)
sizes-more head spans i s d less is =
    ap (sum_by field_size) (pairs_of-more head spans i s d less is) ∙ sum_by_push field_size (pairs_of head (take i spans)) (pair_at head s)

-- no more than all of them
pub sizes_within : (head : List ℕ) (spans : List FieldSpan) (i : ℕ) (s d : FieldSpan) → i < length spans → s ≡ get_or spans i d
    → sum_by field_size (pairs_of head (take i spans)) + field_size (pair_at head s) ≤ sum_by field_size (pairs_of head spans)
sizes_within head spans i s d less is =
    let whole = sum_by-take-le field_size (pairs_of head spans) (i + 1) in
    let same : sum_by field_size (take (i + 1) (pairs_of head spans)) ≡ sum_by field_size (pairs_of head (take (i + 1) spans)) =
    ap (sum_by field_size) (take-map (pair_at head) (i + 1) spans) in
    let more = sizes-more head spans i s d less is in omega arith

separator_length : (found : Bool) → length (separator found) ≤ 2
separator_length false = omega arith
separator_length true = omega arith

-- the field at a place has the name
pub WrittenTo-hit : (head : List ℕ) (spans : List FieldSpan) (name : List ℕ) (i : ℕ) (s d : FieldSpan) (found : Bool) (text text' : List ℕ)
    → i < length spans → s ≡ get_or spans i d → same_name (pair_at head s).0 name ≡ true
    → text' ≡ text ++ (separator found ++ (pair_at head s).1)
    → WrittenTo head spans name i found text → WrittenTo head spans name (i + 1) true text'
WrittenTo-hit head spans name i s d found text text' less is same added before =
    let values : values_of (pairs_of head (take (i + 1) spans)) name ≡ values_of (pairs_of head (take i spans)) name ++ (pair_at head s).1 ∷ [] =
    ap (λ fields. values_of fields name) (pairs_of-more head spans i s d less is)
    ∙ values_of-hit (pairs_of head (take i spans)) (pair_at head s) name same in
    let more = IsWritten-more found text (pair_at head s).1 (values_of (pairs_of head (take i spans)) name) before.written in
    let longer : length text' ≤ length text + (length (pair_at head s).1 + 2) =
    rw added (omega (arith, length-append text (separator found ++ (pair_at head s).1), length-append (separator found) (pair_at head s).1, separator_length found)) in
    let sizes = sizes-more head spans i s d less is in
    record {
      written = subst (λ t. IsWritten true t (values_of (pairs_of head (take (i + 1) spans)) name)) (sym added)
          (subst (λ vs. IsWritten true (text ++ (separator found ++ (pair_at head s).1)) vs) (sym values) more);
      fits = omega (arith, before.fits);
    }

-- it has another
pub WrittenTo-miss : (head : List ℕ) (spans : List FieldSpan) (name : List ℕ) (i : ℕ) (s d : FieldSpan) (found : Bool) (text : List ℕ)
    → i < length spans → s ≡ get_or spans i d → same_name (pair_at head s).0 name ≡ false
    → WrittenTo head spans name i found text → WrittenTo head spans name (i + 1) found text
WrittenTo-miss head spans name i s d found text less is other before = record {
  written = subst (λ vs. IsWritten found text vs)
      (sym (ap (λ fields. values_of fields name) (pairs_of-more head spans i s d less is)
      ∙ values_of-miss (pairs_of head (take i spans)) (pair_at head s) name other)) before.written;
  fits = let more = sizes-more head spans i s d less is in omega (arith, before.fits);
}

pub WrittenTo-none : (head : List ℕ) (spans : List FieldSpan) (name text : List ℕ) → text ≡ []
    → WrittenTo head spans name 0 false text
unfolding IsWritten
WrittenTo-none head spans name text blank = record { written = (refl, blank); fits = rw blank (omega arith) }

-- there is room for the next value
pub room_for : (head : List ℕ) (spans : List FieldSpan) (name : List ℕ) (i : ℕ) (s d : FieldSpan) (found : Bool) (text : List ℕ) (room : ℕ)
    → i < length spans → s ≡ get_or spans i d → sum_by field_size (pairs_of head spans) ≤ length head → length head ≤ room
    → WrittenTo head spans name i found text → length text + length (pair_at head s).1 + 2 ≤ room
room_for head spans name i s d found text room less is fit enough before =
    omega (arith, before.fits, sizes_within head spans i s d less is)

-- all fields
pub WrittenTo-all : (head : List ℕ) (spans : List FieldSpan) (name : List ℕ) (i : ℕ) (found : Bool) (text : List ℕ) → length spans ≤ i
    → WrittenTo head spans name i found text → (if found then Some text else None) ≡ joined (pairs_of head spans) name
WrittenTo-all head spans name i found text over before =
    IsWritten-is found text (values_of (pairs_of head (take i spans)) name) before.written
    ∙ ap (λ part. joined (pairs_of head part) name) (take_all i spans over)
