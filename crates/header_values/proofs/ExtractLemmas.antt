-- The records of a list of texts, and the last of them.
use Rattle.std.proofs.Common.{◌≡◌, ℕ, Bool, true, false, not, ◌&&◌, if◌then◌else◌, List, [], ◌∷◌, ◌++◌, filter, reverse, take_while, codes, Option, Some, None, IfSome, IfNone, is_some, refl, sym, ap, subst, ◌∙◌, append-nil, append_assoc}
use Rattle.std.specs.List.{filter_map}
use Rattle.std.specs.Option.{option_or}
use Rattle.std.specs.Str.{str_to_ascii_lowercase}
use Rattle.std.proofs.lemmas.List.{reverse-append}
use Rattle.std.proofs.lemmas.List.Elements.{filter-append, filter_map-append}
use Rattle.orb_bytes.specs.Fields.{same_name}
use Rattle.mime_types.specs.Mime.{Mime, HasNoMime, IsEssence}
use Rattle.mime_types.specs.declared.essences.Essence.{Essence}
use Rattle.mime_types.proofs.CutLemmas.{one_record}
use Rattle.header_values.specs.Joined.{joined}
use Rattle.header_values.specs.Cuts.{parts_of, parts_left_of}
use Rattle.header_values.specs.Extracted.{HasRecord, HaveRecords, is_any_type, kept_of, same_essence, first_run, last_run, charset_of, with_charset, last_of, answer_of, extracted_of, IsExtracted, IsExtractedEssence, StatesOne}
use Rattle.header_values.specs.Essences.{EndsWith, IsLastOf}

same_record : (text : List ℕ) (a b : Option Mime) → HasRecord text a → HasRecord text b → a ≡ b
same_record text None None of_a of_b = refl
same_record text None (Some n) of_a of_b = absurd (of_a n of_b)
same_record text (Some m) None of_a of_b = absurd (of_b m of_a)
same_record text (Some m) (Some n) of_a of_b = ap Some (one_record text m n of_a of_b)

same_records : (texts : List (List ℕ)) (xs ys : List (Option Mime)) → HaveRecords texts xs → HaveRecords texts ys → xs ≡ ys
same_records [] [] [] of_xs of_ys = refl
same_records [] [] (y ∷ ys) of_xs of_ys = absurd of_ys
same_records [] (x ∷ xs) ys of_xs of_ys = absurd of_xs
same_records (text ∷ texts) [] ys of_xs of_ys = absurd of_xs
same_records (text ∷ texts) (x ∷ xs) [] of_xs of_ys = absurd of_ys
same_records (text ∷ texts) (x ∷ xs) (y ∷ ys) of_xs of_ys =
    let first = same_record text x y of_xs.0 of_ys.0 in
    let others = same_records texts xs ys of_xs.1 of_ys.1 in cc

pub one_extracted : (fields : List (List ℕ × List ℕ)) → StatesOne fields
one_extracted fields a b of_a of_b =
    of_a.2 ∙ ap (λ records. extracted_of (kept_of records)) (same_records _ of_a.0 of_b.0 of_a.1 of_b.1) ∙ sym of_b.2

pub HaveRecords-append : (texts : List (List ℕ)) (records : List (Option Mime)) (texts' : List (List ℕ)) (records' : List (Option Mime))
    → HaveRecords texts records → HaveRecords texts' records' → HaveRecords (texts ++ texts') (records ++ records')
HaveRecords-append [] [] texts' records' are are' = are'
HaveRecords-append [] (r ∷ records) texts' records' are are' = absurd are
HaveRecords-append (text ∷ texts) [] texts' records' are are' = absurd are
HaveRecords-append (text ∷ texts) (r ∷ records) texts' records' are are' =
    (are.0, HaveRecords-append texts records texts' records' are.1 are')

pub kept_of-append : (xs ys : List (Option Mime)) → kept_of (xs ++ ys) ≡ kept_of xs ++ kept_of ys
kept_of-append xs ys =
    let test : Mime → Bool = λ mime. not (is_any_type mime) in
    let same : Option Mime → Option Mime = λ mime. mime in
    ap (filter test) (filter_map-append same xs ys) ∙ filter-append test (filter_map same xs) (filter_map same ys)

EndsWith-append : (ms ns : List Mime) (a b : Option Essence) → EndsWith ms a → EndsWith ns b → EndsWith (ms ++ ns) (option_or b a)
EndsWith-append ms ns a None end_a end_b = subst (λ l. EndsWith l a) (sym (ap (λ l. ms ++ l) end_b ∙ append-nil ms)) end_a
EndsWith-append ms ns a (Some e) end_a (before, m, is, main, sub) =
    (ms ++ before, m, ap (λ l. ms ++ l) is ∙ sym (append_assoc ms before (m ∷ [])), main, sub)

pub IsLastOf-append : (texts more : List (List ℕ)) (a b : Option Essence) → IsLastOf texts a → IsLastOf more b
    → IsLastOf (texts ++ more) (option_or b a)
IsLastOf-append texts more a b (xs, are_xs, end_a) (ys, are_ys, end_b) = (
  xs ++ ys,
  HaveRecords-append texts xs more ys are_xs are_ys,
  subst (λ l. EndsWith l (option_or b a)) (sym (kept_of-append xs ys)) (EndsWith-append (kept_of xs) (kept_of ys) a b end_a end_b),
)

-- one text
kept_alone : (m : Mime) → is_any_type m ≡ false → kept_of (Some m ∷ []) ≡ m ∷ []
kept_alone m is = rw is refl

any_alone : (m : Mime) → is_any_type m ≡ true → kept_of (Some m ∷ []) ≡ []
any_alone m is = rw is refl

any_by : (m : Mime) (main sub : List ℕ) → m.main ≡ str_to_ascii_lowercase main → m.sub ≡ str_to_ascii_lowercase sub
    → is_any_type m ≡ (same_name main (codes "*") && same_name sub (codes "*"))
any_by m main sub is_main is_sub = rw (is_main, is_sub) refl

pub kept_none : (text : List ℕ) → HasNoMime text → IsLastOf (text ∷ []) None
kept_none text none = (None ∷ [], (none, tt), refl)

pub kept_any : (text : List ℕ) (e : Essence) → IsEssence text e.main.now e.sub.now
    → (same_name e.main.now (codes "*") && same_name e.sub.now (codes "*")) ≡ true → IsLastOf (text ∷ []) None
kept_any text e (m, is, main, sub) any = (Some m ∷ [], (is, tt), any_alone m (any_by m _ _ main sub ∙ any))

pub kept_some : (text : List ℕ) (e : Essence) → IsEssence text e.main.now e.sub.now
    → (same_name e.main.now (codes "*") && same_name e.sub.now (codes "*")) ≡ false → IsLastOf (text ∷ []) (Some e)
kept_some text e (m, is, main, sub) named =
    (Some m ∷ [], (is, tt), ([], m, kept_alone m (any_by m _ _ main sub ∙ named), main, sub))

-- the texts up to the rest are read
pub record ReadTo (value : List ℕ) (rest : List (List ℕ)) (last : Option Essence) : Type 0 where
  pub texts : List (List ℕ)
  pub whole : texts ++ rest ≡ parts_of value
  pub is : IsLastOf texts last

pub ReadTo-more : (value text : List ℕ) (rest rest' : List (List ℕ)) (last found : Option Essence) → rest ≡ text ∷ rest'
    → IsLastOf (text ∷ []) found → ReadTo value rest last → ReadTo value rest' (option_or found last)
ReadTo-more value text rest rest' last found next is before = record {
  texts = before.texts ++ text ∷ [];
  whole = append_assoc before.texts (text ∷ []) rest' ∙ ap (λ l. before.texts ++ l) (sym next) ∙ before.whole;
  is = IsLastOf-append before.texts (text ∷ []) last found before.is is;
}

-- the answer of a run is its last record, but for the charset
pub ends : (m : Mime) (ms : List Mime) (n : Mime) → last_of m (ms ++ n ∷ []) ≡ n
ends m [] n = refl
ends m (next ∷ ms) n = ends next ms n

record SameEssence (answer : Option Mime) (mime : Mime) : Type 0 where
  found : Mime
  is : answer ≡ Some found
  main : found.main ≡ mime.main
  sub : found.sub ≡ mime.sub

with_charset-main : (charset : Option (List ℕ)) (m : Mime) → (with_charset charset m).main ≡ m.main
with_charset-main None m = refl
with_charset-main (Some charset) m =
    elim (is_some (charset_of m)) as (λ v. ◌≡◌ {A = List ℕ} (if v then m else record m { parameters = m.parameters ++ (codes "charset", charset) ∷ [] }).main m.main) [
      | true ↦ refl
      | false ↦ refl
    ]

with_charset-sub : (charset : Option (List ℕ)) (m : Mime) → (with_charset charset m).sub ≡ m.sub
with_charset-sub None m = refl
with_charset-sub (Some charset) m =
    elim (is_some (charset_of m)) as (λ v. ◌≡◌ {A = List ℕ} (if v then m else record m { parameters = m.parameters ++ (codes "charset", charset) ∷ [] }).sub m.sub) [
      | true ↦ refl
      | false ↦ refl
    ]

answer_of-ends : (ms : List Mime) (n : Mime) → SameEssence (answer_of (ms ++ n ∷ [])) n
answer_of-ends [] n = record {
  found = with_charset (charset_of n) n;
  is = refl;
  main = with_charset-main (charset_of n) n;
  sub = with_charset-sub (charset_of n) n;
}
answer_of-ends (m ∷ ms) n = record {
  found = with_charset (charset_of m) n;
  is = ap (λ l. Some (with_charset (charset_of m) l)) (ends m ms n);
  main = with_charset-main (charset_of m) n;
  sub = with_charset-sub (charset_of m) n;
}

-- the last run ends with the last record
pub last_run-ends : (before : List Mime) (m : Mime)
    → last_run (before ++ m ∷ []) ≡ reverse (take_while (same_essence m) (reverse before)) ++ m ∷ []
last_run-ends before m =
    ap (λ l. reverse (first_run l)) (reverse-append before (m ∷ []))
    ∙ reverse-append (m ∷ []) (take_while (same_essence m) (reverse before))

extracted_of-ends : (before : List Mime) (m : Mime) → SameEssence (extracted_of (before ++ m ∷ [])) m
unfolding extracted_of
extracted_of-ends before m =
    subst (λ l. SameEssence (answer_of l) m) (sym (last_run-ends before m))
    (answer_of-ends (reverse (take_while (same_essence m) (reverse before))) m)

pub extracted_of-none : extracted_of [] ≡ None
unfolding extracted_of
extracted_of-none = refl

-- what the fields state, by the parts of the joined value
pub extracted_absent : (fields : List (List ℕ × List ℕ)) → None ≡ joined fields (codes "Content-Type") → IsExtracted fields None
extracted_absent fields none =
    ([], subst (λ value. HaveRecords (parts_left_of value) []) none tt, sym extracted_of-none)

pub extracted_none : (fields : List (List ℕ × List ℕ)) (value : List ℕ) → Some value ≡ joined fields (codes "Content-Type")
    → IsLastOf (parts_of value) None → IsExtracted fields None
extracted_none fields value whole (records, are, none) =
    (records, subst (λ value. HaveRecords (parts_left_of value) records) whole are, sym (ap extracted_of none ∙ extracted_of-none))

pub extracted_some : (fields : List (List ℕ × List ℕ)) (value : List ℕ) (e : Essence) → Some value ≡ joined fields (codes "Content-Type")
    → IsLastOf (parts_of value) (Some e) → IsExtractedEssence fields e.main.now e.sub.now
extracted_some fields value e whole (records, are, (before, m, is, main, sub)) =
    let end = extracted_of-ends before m in (
      end.found,
      (records, subst (λ value. HaveRecords (parts_left_of value) records) whole are, sym (ap extracted_of is ∙ end.is)),
      end.main ∙ main,
      end.sub ∙ sub,
    )

pub extracted_by : (fields : List (List ℕ × List ℕ)) (value : List ℕ) (answer : Option Essence) → Some value ≡ joined fields (codes "Content-Type")
    → IsLastOf (parts_of value) answer
    → IfSome answer (λ e. IsExtractedEssence fields e.main.now e.sub.now) × IfNone answer (IsExtracted fields None)
extracted_by fields value None whole last = (tt, extracted_none fields value whole last)
extracted_by fields value (Some e) whole last = (extracted_some fields value e whole last, tt)
