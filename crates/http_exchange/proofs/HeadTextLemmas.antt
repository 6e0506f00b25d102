-- The texts of heads: each is a head of the grammar with these fields, and ends at its first empty line.
use Rattle.std.proofs.Common.{◌≡◌, ℕ, ◌+◌, ◌<◌, Bool, true, false, not, ◌==◌, List, [], ◌∷◌, ◌++◌, length, map, take, drop, Option, Some, None, option_map, refl, sym, ap, ◌∙◌, ap₂, arith, append_assoc, length-append}
use Rattle.std.specs.Prelude.{suc, All}
use Rattle.std.specs.List.{list_all, flat_map}
use Rattle.std.proofs.lemmas.Bool.{and_parts, and_from}
use Rattle.std.proofs.lemmas.Bool.Decides.{nat_tests}
use Rattle.std.proofs.lemmas.Option.{none-some}
use Rattle.std.proofs.lemmas.List.Folds.{list_all-append}
use Rattle.std.proofs.lemmas.List.Elements.{All-cons, All-nil}
use Rattle.std.proofs.lemmas.List.Sums.{AllPass-from_list_all}
use Rattle.std.proofs.Math.Seq.{take-append_seam, drop-append_seam}
use Rattle.httparse.specs.Grammar.{Field, IsField, is_token_byte, is_value_byte, trim_ows, print_field, print_section, crlf}
use Rattle.orb_bytes.specs.Ascii.{space, colon, carriage_return, line_feed}
use Rattle.orb_bytes.specs.Ascii as ascii
use Rattle.http_exchange.specs.Fields.{pairs_of}
use Rattle.http_exchange.specs.Head.{head_length}
use Rattle.http_exchange.specs.Messages.{field_line, head_text}
use Rattle.http_exchange.proofs.EndLemmas.{head_length-stays}

-- a field that can be written: a token, and a value of value bytes
pub record IsWritable (f : List ℕ × List ℕ) : Type 0 where
  pub some : 0 < length f.0
  pub name : list_all is_token_byte f.0 ≡ true
  pub value : list_all is_value_byte f.1 ≡ true

abbrev pub AreWritable : List (List ℕ × List ℕ) → Type 0
AreWritable [] = Unit {0}
AreWritable (f ∷ fields) = IsWritable f × AreWritable fields

-- ---- in the grammar

-- the field, as it is written
abbrev pub tree_of : List ℕ × List ℕ → Field
tree_of f = record { name = f.0; raw = space ∷ f.1; end = crlf }

abbrev pub trees_of : List (List ℕ × List ℕ) → List Field
trees_of fields = map tree_of fields

-- and as it is read: the value without the white space around it
abbrev pub as_read : List ℕ × List ℕ → List ℕ × List ℕ
as_read f = (f.0, trim_ows (space ∷ f.1))

print-tree : (f : List ℕ × List ℕ) → print_field (tree_of f) ≡ field_line f
print-tree f = append_assoc f.0 (colon ∷ (space ∷ f.1)) ascii.crlf

print-trees : (fields : List (List ℕ × List ℕ)) → flat_map print_field (trees_of fields) ≡ flat_map field_line fields
print-trees [] = refl
print-trees (f ∷ fields) = ap₂ (λ (a b : List ℕ). a ++ b) (print-tree f) (print-trees fields)

pub print_section-trees : (fields : List (List ℕ × List ℕ))
    → print_section (trees_of fields) crlf ≡ flat_map field_line fields ++ ascii.crlf
print_section-trees fields = ap (λ l. l ++ ascii.crlf) (print-trees fields)

pub pairs-trees : (fields : List (List ℕ × List ℕ)) → pairs_of (trees_of fields) ≡ map as_read fields
pairs-trees [] = refl
pairs-trees (f ∷ fields) = ap (λ pairs. as_read f ∷ pairs) (pairs-trees fields)

IsField-tree : (f : List ℕ × List ℕ) → IsWritable f → IsField (tree_of f)
IsField-tree f is = record {
  name = (is.some, AllPass-from_list_all is_token_byte f.0 is.name);
  raw = AllPass-from_list_all is_value_byte (space ∷ f.1) is.value;
}

pub AreFields-trees : (fields : List (List ℕ × List ℕ)) → AreWritable fields → All IsField (trees_of fields)
AreFields-trees [] are = All-nil IsField
AreFields-trees (f ∷ fields) are =
    All-cons IsField (tree_of f) (trees_of fields) (IsField-tree f are.0) (AreFields-trees fields are.1)

-- ---- the first empty line

abbrev pub is_no_end : ℕ → Bool
is_no_end b = not (b == carriage_return)

-- the length of a head after so many bytes
after : ℕ → Option ℕ → Option ℕ
after n found = option_map (λ k. n + k) found

no_end_first : (b : ℕ) → is_no_end b ≡ true → (b == carriage_return) ≡ false
no_end_first b other = grind (arith, nat_tests)

after-one : (found : Option ℕ) → option_map suc found ≡ after 1 found
unfolding after
after-one None = refl
after-one (Some k) = ap Some (omega arith)

after-zero : (found : Option ℕ) → found ≡ after 0 found
unfolding after
after-zero None = refl
after-zero (Some k) = ap Some (omega arith)

later : (b : ℕ) (text : List ℕ) → is_no_end b ≡ true → head_length (b ∷ text) ≡ after 1 (head_length text)
unfolding head_length after
later b text other = rw (no_end_first b other) (after-one (head_length text))

after-after : (m n : ℕ) (found : Option ℕ) → after m (after n found) ≡ after (m + n) found
unfolding after
after-after m n None = refl
after-after m n (Some k) = ap Some (omega arith)

-- bytes that end no line are passed over
passed : (line rest : List ℕ) → list_all is_no_end line ≡ true → head_length (line ++ rest) ≡ after (length line) (head_length rest)
passed [] rest are = after-zero (head_length rest)
passed (b ∷ line) rest are =
    let parts = and_parts (is_no_end b) (list_all is_no_end line) are in
    later b (line ++ rest) parts.0
    ∙ ap (after 1) (passed line rest parts.1)
    ∙ after-after 1 (length line) (head_length rest)
    ∙ ap (λ n. after n (head_length rest)) (omega arith)

twice : (found : Option ℕ) → option_map suc (option_map suc found) ≡ after 2 found
unfolding after
twice None = refl
twice (Some k) = ap Some (omega arith)

-- a line that ends, and the next one, which isn't empty
line_end : (b : ℕ) (rest : List ℕ) → is_no_end b ≡ true → head_length (ascii.crlf ++ (b ∷ rest)) ≡ after 2 (head_length (b ∷ rest))
unfolding head_length after
line_end b rest other = rw (no_end_first b other) (twice (option_map suc (head_length rest)))

line_ends : (next rest : List ℕ) → 0 < length next → list_all is_no_end next ≡ true
    → head_length (ascii.crlf ++ (next ++ rest)) ≡ after 2 (head_length (next ++ rest))
line_ends [] rest some are = absurd (omega (arith, some))
line_ends (b ∷ next) rest some are = line_end b (next ++ rest) (and_parts (is_no_end b) (list_all is_no_end next) are).0

-- the empty line
last_end : head_length (ascii.crlf ++ ascii.crlf) ≡ Some 4
unfolding head_length
last_end = refl

-- a field's line without its end
body_of_line : List ℕ × List ℕ → List ℕ
body_of_line f = f.0 ++ (colon ∷ (space ∷ f.1))

line_cut : (f : List ℕ × List ℕ) (fields : List (List ℕ × List ℕ))
    → flat_map field_line (f ∷ fields) ++ ascii.crlf
    ≡ body_of_line f ++ (ascii.crlf ++ (flat_map field_line fields ++ ascii.crlf))
unfolding body_of_line
line_cut f fields =
    ap (λ l. (l ++ flat_map field_line fields) ++ ascii.crlf) (sym (append_assoc f.0 (colon ∷ (space ∷ f.1)) ascii.crlf))
    ∙ append_assoc ((f.0 ++ (colon ∷ (space ∷ f.1))) ++ ascii.crlf) (flat_map field_line fields) ascii.crlf
    ∙ append_assoc (f.0 ++ (colon ∷ (space ∷ f.1))) ascii.crlf (flat_map field_line fields ++ ascii.crlf)

pub token_no_end : (b : ℕ) → is_token_byte b ≡ true → is_no_end b ≡ true
unfolding is_token_byte
token_no_end b is = grind (arith, nat_tests)

pub value_no_end : (b : ℕ) → is_value_byte b ≡ true → is_no_end b ≡ true
value_no_end b is = grind (arith, nat_tests)

-- what each byte of a text passes each passes that is weaker
pub all_pass : (test other : ℕ → Bool) (text : List ℕ) → ((b : ℕ) → test b ≡ true → other b ≡ true) → list_all test text ≡ true
    → list_all other text ≡ true
all_pass test other [] weaker are = refl
all_pass test other (b ∷ text) weaker are =
    let parts = and_parts (test b) (list_all test text) are in
    and_from _ _ (weaker b parts.0) (all_pass test other text weaker parts.1)

line_no_end : (f : List ℕ × List ℕ) → IsWritable f → list_all is_no_end (body_of_line f) ≡ true
unfolding body_of_line
line_no_end f is =
    rw (
      list_all-append is_no_end f.0 (colon ∷ (space ∷ f.1)),
      all_pass is_token_byte is_no_end f.0 token_no_end is.name,
      all_pass is_value_byte is_no_end f.1 value_no_end is.value,
    ) refl

some_line : (f : List ℕ × List ℕ) → IsWritable f → 0 < length (body_of_line f)
unfolding body_of_line
some_line f is = omega (arith, length-append f.0 (colon ∷ (space ∷ f.1)))

-- a head ends at its first empty line
pub head_ends : (start : List ℕ) (fields : List (List ℕ × List ℕ)) → list_all is_no_end start ≡ true → AreWritable fields
    → head_length (head_text start fields) ≡ Some (length (head_text start fields))
unfolding after
head_ends start [] are written =
    passed start (ascii.crlf ++ ascii.crlf) are
    ∙ ap (after (length start)) last_end
    ∙ ap Some (omega (arith, length-append start (ascii.crlf ++ ascii.crlf)))
head_ends start (f ∷ fields) are written =
    let line = body_of_line f in
    let rest = ascii.crlf ++ (flat_map field_line fields ++ ascii.crlf) in
    let cut = line_cut f fields in
    let whole : head_text start (f ∷ fields) ≡ start ++ (ascii.crlf ++ (line ++ rest)) = ap (λ l. start ++ (ascii.crlf ++ l)) cut in
    let others = head_ends line fields (line_no_end f written.0) written.1 in
    ap head_length whole
    ∙ passed start (ascii.crlf ++ (line ++ rest)) are
    ∙ ap (after (length start)) (line_ends line rest (some_line f written.0) (line_no_end f written.0))
    ∙ ap (λ l. after (length start) (after 2 l)) others
    ∙ ap Some (omega (arith, length-append start (ascii.crlf ++ (line ++ rest)), ap length whole))

-- two lists of fields that can be written
pub written_both : (fields others : List (List ℕ × List ℕ)) → AreWritable fields → AreWritable others → AreWritable (fields ++ others)
written_both [] others are are' = are'
written_both (f ∷ fields) others are are' = (are.0, written_both fields others are.1 are')

-- ---- heads at the beginning of bytes

some_is : (m n : ℕ) → Some m ≡ Some n → m ≡ n
some_is m n e = cc

-- the same bytes begin with one head
pub one_head : (a x b y : List ℕ) → head_length a ≡ Some (length a) → head_length b ≡ Some (length b) → a ++ x ≡ b ++ y
    → (a ≡ b) × (x ≡ y)
one_head a x b y ends ends' e =
    let long : length a ≡ length b =
    some_is (length a) (length b)
    (sym (head_length-stays a x (length a) ends) ∙ ap head_length e ∙ head_length-stays b y (length b) ends') in (
      sym (take-append_seam a x) ∙ ap₂ (λ (n : ℕ) (l : List ℕ). take n l) long e ∙ take-append_seam b y,
      sym (drop-append_seam a x) ∙ ap₂ (λ (n : ℕ) (l : List ℕ). drop n l) long e ∙ drop-append_seam b y,
    )

-- bytes that begin with a head don't stand in one that may go on
pub head_not_open : (a x open_ : List ℕ) → head_length a ≡ Some (length a) → head_length open_ ≡ None → a ++ x ≡ open_ → ⊥
head_not_open a x open_ ends none e =
    none-some (length a) (sym none ∙ ap head_length (sym e) ∙ head_length-stays a x (length a) ends)
