-- The last run of a list of records, one record after the other.
use Rattle.std.proofs.Common.{◌≡◌, ℕ, ◌+◌, suc, Bool, true, false, ◌&&◌, if◌then◌else◌, List, [], ◌∷◌, ◌++◌, take, reverse, take_while, bytes_eq, Option, Some, None, option_to_list, refl, sym, ap, subst, ◌∙◌, append_assoc, append-nil, arith}
use Rattle.std.specs.List.{list_all, prefix_len}
use Rattle.std.proofs.lemmas.Bool.{and_parts, and_from}
use Rattle.std.proofs.lemmas.List.{reverse-append}
use Rattle.std.proofs.lemmas.List.Folds.{list_all-append}
use Rattle.std.proofs.lemmas.Slice.Eq.{bytes_eq-Decides}
use Rattle.mime_types.specs.Mime.{Mime, IsMime, HasNoMime}
use Rattle.header_values.specs.declared.run.Run.{Run}
use Rattle.header_values.specs.Cuts.{parts_of}
use Rattle.header_values.specs.Extracted.{HaveRecords, is_any_type, kept_of, same_essence, first_run, last_run, charset_of, with_charset, answer_of, extracted_of}
use Rattle.header_values.specs.Runs.{run_with, run_after, answer_by, answer_in, last_in, IsRunOf, IsKeptMime, IsLastMime}
use Rattle.header_values.proofs.ExtractLemmas.{kept_of-append, HaveRecords-append, last_run-ends, ends, extracted_of-none}

-- ---- equal essences

equal_texts : (a b : List ℕ) → bytes_eq a b ≡ true → a ≡ b
equal_texts a b is = (bytes_eq-Decides a b).0 is

same_text : (a : List ℕ) → bytes_eq a a ≡ true
same_text a = (bytes_eq-Decides a a).1 refl

record HaveOneEssence (m n : Mime) : Type 0 where
  main : m.main ≡ n.main
  sub : m.sub ≡ n.sub

one_essence : (m n : Mime) → same_essence m n ≡ true → HaveOneEssence m n
one_essence m n same =
    let parts = and_parts (bytes_eq m.main n.main) (bytes_eq m.sub n.sub) same in
    record { main = equal_texts m.main n.main parts.0; sub = equal_texts m.sub n.sub parts.1 }

same_itself : (m : Mime) → same_essence m m ≡ true
same_itself m = and_from (bytes_eq m.main m.main) (bytes_eq m.sub m.sub) (same_text m.main) (same_text m.sub)

-- ---- the prefix of a list that passes a test

take_while-hit : (test : Mime → Bool) (m : Mime) (ms : List Mime) → test m ≡ true
    → take_while test (m ∷ ms) ≡ m ∷ take_while test ms
take_while-hit test m ms passes =
    let one : 1 + prefix_len test ms ≡ suc (prefix_len test ms) = omega arith in
    rw passes (ap (λ n. take n (m ∷ ms)) one)

take_while-miss : (test : Mime → Bool) (m : Mime) (ms : List Mime) → test m ≡ false → take_while test (m ∷ ms) ≡ []
take_while-miss test m ms fails = rw fails refl

list_all-take_while : (test : Mime → Bool) (ms : List Mime) → list_all test (take_while test ms) ≡ true
list_all-take_while test [] = refl
list_all-take_while test (m ∷ ms) =
    elim (test m) as (λ v. test m ≡ v → list_all test (take_while test (m ∷ ms)) ≡ true) [
      | true ↦ λ passes. ap (list_all test) (take_while-hit test m ms passes)
          ∙ and_from (test m) (list_all test (take_while test ms)) passes (list_all-take_while test ms)
      | false ↦ λ fails. ap (list_all test) (take_while-miss test m ms fails)
    ] refl

list_all-reversed : (test : Mime → Bool) (ms : List Mime) → list_all test ms ≡ true → list_all test (reverse ms) ≡ true
list_all-reversed test [] are = refl
list_all-reversed test (m ∷ ms) are =
    let parts = and_parts (test m) (list_all test ms) are in
    ap (list_all test) (reverse-append (m ∷ []) ms) ∙ list_all-append test (reverse ms) (m ∷ [])
    ∙ and_from (list_all test (reverse ms)) (test m && true) (list_all-reversed test ms parts.1)
    (and_from (test m) true parts.0 refl)

-- ---- one record more

-- the records after the run of a record
take_while-same : (m x : Mime) (ms : List Mime) → HaveOneEssence m x → take_while (same_essence m) ms ≡ take_while (same_essence x) ms
take_while-same m x ms same =
    ap (λ main. take_while (λ n. bytes_eq main n.main && bytes_eq m.sub n.sub) ms) same.main
    ∙ ap (λ sub. take_while (λ n. bytes_eq x.main n.main && bytes_eq sub n.sub) ms) same.sub

-- the first record of the last run has the essence of the last
first_by : (x first : Mime) (ms others : List Mime) → reverse (first_run (x ∷ ms)) ≡ first ∷ others → HaveOneEssence x first
first_by x first ms others is =
    let all : list_all (same_essence x) (first_run (x ∷ ms)) ≡ true =
    and_from (same_essence x x) (list_all (same_essence x) (take_while (same_essence x) ms)) (same_itself x)
    (list_all-take_while (same_essence x) ms) in
    let turned : list_all (same_essence x) (first ∷ others) ≡ true =
    sym (ap (list_all (same_essence x)) is) ∙ list_all-reversed (same_essence x) (first_run (x ∷ ms)) all in
    one_essence x first (and_parts (same_essence x first) (list_all (same_essence x) others) turned).0

-- a record of the same essence goes on with the run
run-more : (m first : Mime) (turned others : List Mime) → reverse (first_run turned) ≡ first ∷ others → same_essence m first ≡ true
    → reverse (take_while (same_essence m) turned) ++ m ∷ [] ≡ first ∷ (others ++ m ∷ [])
run-more m first [] others is same = absurd (cc)
run-more m first (x ∷ ms) others is same =
    let of_m = one_essence m first same in
    let of_x = first_by x first ms others is in
    let both : HaveOneEssence m x = record { main = of_m.main ∙ sym of_x.main; sub = of_m.sub ∙ sym of_x.sub } in
    let here : take_while (same_essence m) (x ∷ ms) ≡ first_run (x ∷ ms) =
    take_while-same m x (x ∷ ms) both ∙ take_while-hit (same_essence x) x ms (same_itself x) in
    ap (λ l. reverse l ++ m ∷ []) here ∙ ap (λ l. l ++ m ∷ []) is

-- another begins one
run-new : (m first : Mime) (turned others : List Mime) → reverse (first_run turned) ≡ first ∷ others → same_essence m first ≡ false
    → reverse (take_while (same_essence m) turned) ++ m ∷ [] ≡ m ∷ []
run-new m first [] others is other = absurd (cc)
run-new m first (x ∷ ms) others is other =
    let of_x = first_by x first ms others is in
    let fails : same_essence m x ≡ false =
    ap (λ main. bytes_eq m.main main && bytes_eq m.sub x.sub) of_x.main ∙ ap (λ sub. bytes_eq m.main first.main && bytes_eq m.sub sub) of_x.sub ∙ other in
    ap (λ l. reverse l ++ m ∷ []) (take_while-miss (same_essence m) x ms fails)

last_in-more : (ms : List Mime) (m : Mime) → last_in (ms ++ m ∷ []) ≡ Some m
last_in-more [] m = refl
last_in-more (first ∷ ms) m = ap Some (ends first ms m)

pub IsRunOf-more : (ms : List Mime) (run : Option Run) (m : Mime) → IsRunOf ms run → IsRunOf (ms ++ m ∷ []) (Some (run_with run m))
IsRunOf-more ms None m none = ([], ap (λ l. last_run (l ++ m ∷ [])) none, refl)
IsRunOf-more ms (Some run) m (others, is, last) =
    elim (same_essence m run.first) as (λ v. same_essence m run.first ≡ v
    → IsRunOf (ms ++ m ∷ []) (Some (if v then record { first = run.first; last = Some m } else record { first = m; last = None }))) [
      | true ↦ λ same. (
        others ++ m ∷ [],
        last_run-ends ms m ∙ run-more m run.first (reverse ms) others is same,
        sym (last_in-more others m),
      )
      | false ↦ λ other. ([], last_run-ends ms m ∙ run-new m run.first (reverse ms) others is other, refl)
    ] refl

-- ---- the answer of a run

charset_stays : (m : Mime) → with_charset (charset_of m) m ≡ m
charset_stays m =
    elim (charset_of m) as (λ v. charset_of m ≡ v → with_charset v m ≡ m) [
      | None ↦ λ none. refl
      | Some charset ↦ λ some. rw some refl
    ] refl

answer_by-is : (first : Mime) (others : List Mime) (last : Option Mime) → last ≡ last_in others
    → answer_of (first ∷ others) ≡ Some (answer_by first last)
answer_by-is first [] last is = ap Some (charset_stays first) ∙ ap (λ l. Some (answer_by first l)) (sym is)
answer_by-is first (next ∷ others) last is = ap (λ l. Some (answer_by first l)) (sym is)

pub extracted_of-run : (ms : List Mime) (run : Run) → IsRunOf ms (Some run) → extracted_of ms ≡ Some (answer_in run)
unfolding extracted_of
extracted_of-run ms run (others, is, last) = ap answer_of is ∙ answer_by-is run.first others run.last last

-- ---- one text more

pub kept_mime : (text : List ℕ) (m : Mime) → IsMime text m → IsKeptMime text (if is_any_type m then None else Some m)
kept_mime text m is =
    elim (is_any_type m) as (λ v. is_any_type m ≡ v → IsKeptMime text (if v then None else Some m)) [
      | true ↦ λ any. (Some m ∷ [], (is, tt), rw any refl)
      | false ↦ λ named. (Some m ∷ [], (is, tt), rw named refl)
    ] refl

pub no_mime : (text : List ℕ) → HasNoMime text → IsKeptMime text None
no_mime text none = (None ∷ [], (none, tt), refl)

-- the texts up to the rest are read
pub record MimesTo (value : List ℕ) (rest : List (List ℕ)) (run : Option Run) : Type 0 where
  pub texts : List (List ℕ)
  pub records : List (Option Mime)
  pub whole : texts ++ rest ≡ parts_of value
  pub have : HaveRecords texts records
  pub is : IsRunOf (kept_of records) run

pub MimesTo-start : (value : List ℕ) (rest : List (List ℕ)) → rest ≡ parts_of value → MimesTo value rest None
MimesTo-start value rest all = record { texts = []; records = []; whole = all; have = tt; is = refl }

IsRunOf-after : (ms ns : List Mime) (run : Option Run) (m : Option Mime) → IsRunOf ms run → ns ≡ option_to_list m
    → IsRunOf (ms ++ ns) (run_after run m)
IsRunOf-after ms ns run None is none = subst (λ l. IsRunOf l run) (sym (ap (λ l. ms ++ l) none ∙ append-nil ms)) is
IsRunOf-after ms ns run (Some m) is one =
    subst (λ l. IsRunOf l (Some (run_with run m))) (sym (ap (λ l. ms ++ l) one)) (IsRunOf-more ms run m is)

pub MimesTo-more : (value text : List ℕ) (rest rest' : List (List ℕ)) (run : Option Run) (m : Option Mime) → rest ≡ text ∷ rest'
    → IsKeptMime text m → MimesTo value rest run → MimesTo value rest' (run_after run m)
MimesTo-more value text rest rest' run m next (records, have, kept) before = record {
  texts = before.texts ++ text ∷ [];
  records = before.records ++ records;
  whole = append_assoc before.texts (text ∷ []) rest' ∙ ap (λ l. before.texts ++ l) (sym next) ∙ before.whole;
  have = HaveRecords-append before.texts before.records (text ∷ []) records before.have have;
  is = subst (λ ms. IsRunOf ms (run_after run m)) (sym (kept_of-append before.records records))
      (IsRunOf-after (kept_of before.records) (kept_of records) run m before.is kept);
}

all_read : (value : List ℕ) (rest texts : List (List ℕ)) → rest ≡ [] → texts ++ rest ≡ parts_of value → texts ≡ parts_of value
all_read value rest texts none whole = sym (append-nil texts) ∙ ap (λ l. texts ++ l) (sym none) ∙ whole

pub MimesTo-answer : (value : List ℕ) (rest : List (List ℕ)) (so_far : Option Run) (run : Run) (m : Mime) → rest ≡ []
    → MimesTo value rest so_far → so_far ≡ Some run → m ≡ answer_in run → IsLastMime value (Some m)
MimesTo-answer value rest so_far run m none before some answer = (
  before.records,
  subst (λ texts. HaveRecords texts before.records) (all_read value rest before.texts none before.whole) before.have,
  ap Some answer ∙ sym (extracted_of-run (kept_of before.records) run (subst (IsRunOf (kept_of before.records)) some before.is)),
)

pub MimesTo-absent : (value : List ℕ) (rest : List (List ℕ)) (so_far : Option Run) → rest ≡ [] → MimesTo value rest so_far
    → so_far ≡ None → IsLastMime value None
MimesTo-absent value rest so_far none before absent = (
  before.records,
  subst (λ texts. HaveRecords texts before.records) (all_read value rest before.texts none before.whole) before.have,
  sym (ap extracted_of (subst (IsRunOf (kept_of before.records)) absent before.is) ∙ extracted_of-none),
)
