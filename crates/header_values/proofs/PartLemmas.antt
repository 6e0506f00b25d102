-- The parts of a value, by one walk over it.
use Rattle.std.proofs.Common.{◌≡◌, ℕ, zero, suc, ◌+◌, ◌-◌, ◌≤◌, ◌<◌, Bool, true, false, not, ◌&&◌, ◌||◌, nat_eq, List, [], ◌∷◌, ◌++◌, length, take, drop, get_or, map, Option, Some, None, drop_of_length-le, refl, sym, ap, subst, ◌∙◌, append_assoc, append-nil, length-append, length-drop, inl, inr, arith}
use Rattle.std.specs.List.{list_all, flat_map}
use Rattle.std.proofs.lemmas.Bool.{and_parts, and_from, eqb-true}
use Rattle.std.proofs.lemmas.Bool.Decides.{eqb_tells}
use Rattle.orb_bytes.specs.Bytes.{is_empty, is_tab_or_space}
use Rattle.orb_bytes.specs.Trim.{trimmed}
use Rattle.std.proofs.Math.Seq.{drop-cons}
use Rattle.std.proofs.lemmas.List.{take_more, take_all}
use Rattle.orb_bytes.specs.Quoted.{QuotedUnit, qdtext, quoted_pair, unit_text, is_unit, by_quote, by_end, by_backslash}
use Rattle.orb_bytes.proofs.QuotedLemmas.{stops_units, units_of}
use Rattle.header_values.specs.declared.split.State.{State}
use Rattle.header_values.specs.declared.split.State.TheVariants.{Outside, Inside}
use Rattle.header_values.specs.Parts.{Piece, bare, string, piece_text, is_piece, is_last, part_text, is_part, is_closed, parts_text, are_parts, IsCut, trimmed_part}
use Rattle.header_values.specs.Cuts.{HasOneCut, state_after, is_cut, put_first, cut_from, cuts_left, parts_of, parts_left_of}

put_first-twice : (a b : List ℕ) (texts : List (List ℕ)) → put_first a (put_first b texts) ≡ put_first (a ++ b) texts
put_first-twice a b [] = refl
put_first-twice a b (text ∷ texts) = ap (λ t. t ∷ texts) (sym (append_assoc a b text))

put_first-none : (texts : List (List ℕ)) → put_first [] texts ≡ texts
put_first-none [] = refl
put_first-none (text ∷ texts) = refl

-- a byte that ends no part
cut_from-byte : (state : State) (b : ℕ) (text : List ℕ) → is_cut state b ≡ false
    → cut_from state (b ∷ text) ≡ put_first (b ∷ []) (cut_from (state_after state b) text)
cut_from-byte state b text stays = rw stays refl

-- the bytes that stand for themselves in a string
plain_unit : (quote slash : Bool) → not (quote || slash) ≡ true → (quote ≡ false) × (slash ≡ false)
plain_unit true slash is = absurd (cc)
plain_unit false true is = absurd (cc)
plain_unit false false is = (refl, refl)

cut_from-unit : (u : QuotedUnit) (text : List ℕ) → is_unit u ≡ true
    → cut_from Inside (unit_text u ++ text) ≡ put_first (unit_text u) (cut_from Inside text)
cut_from-unit (qdtext b) text is =
    let plain = plain_unit (nat_eq b 34) (nat_eq b 92) is in rw (plain.0, plain.1) refl
cut_from-unit (quoted_pair b) text is = put_first-twice (92 ∷ []) (b ∷ []) (cut_from Inside text)

cut_from-units : (us : List QuotedUnit) (text : List ℕ) → list_all is_unit us ≡ true
    → cut_from Inside (flat_map unit_text us ++ text) ≡ put_first (flat_map unit_text us) (cut_from Inside text)
cut_from-units [] text are = sym (put_first-none (cut_from Inside text))
cut_from-units (u ∷ us) text are =
    let parts = and_parts (is_unit u) (list_all is_unit us) are in
    ap (cut_from Inside) (append_assoc (unit_text u) (flat_map unit_text us) text)
    ∙ cut_from-unit u (flat_map unit_text us ++ text) parts.0
    ∙ ap (put_first (unit_text u)) (cut_from-units us text parts.1)
    ∙ put_first-twice (unit_text u) (flat_map unit_text us) (cut_from Inside text)

-- a piece after which the value may go on
cut_from-piece : (p : Piece) (text : List ℕ) → is_piece p ≡ true → is_last p ≡ false
    → cut_from Outside (piece_text p ++ text) ≡ put_first (piece_text p) (cut_from Outside text)
cut_from-piece (bare b) text is goes_on =
    let plain = plain_unit (nat_eq b 44) (nat_eq b 34) is in rw (plain.0, plain.1) refl
cut_from-piece (string us by_quote) text is goes_on =
    ap (λ back. put_first (34 ∷ []) (cut_from Inside back)) (append_assoc (flat_map unit_text us) (34 ∷ []) text)
    ∙ ap (put_first (34 ∷ [])) (cut_from-units us (34 ∷ text) is ∙ put_first-twice (flat_map unit_text us) (34 ∷ []) (cut_from Outside text))
    ∙ put_first-twice (34 ∷ []) (flat_map unit_text us ++ 34 ∷ []) (cut_from Outside text)
cut_from-piece (string us by_end) text is goes_on = absurd (cc)
cut_from-piece (string us by_backslash) text is goes_on = absurd (cc)

-- a piece at the end of the value
cut_from-last : (p : Piece) → is_piece p ≡ true → is_last p ≡ true → cut_from Outside (piece_text p) ≡ piece_text p ∷ []
cut_from-last (bare b) is last = absurd (cc)
cut_from-last (string us by_quote) is last = absurd (cc)
cut_from-last (string us by_end) is last =
    ap (put_first (34 ∷ [])) (cut_from-units us [] is ∙ ap (λ t. t ∷ []) (append-nil (flat_map unit_text us)))
    ∙ ap (λ t. (34 ∷ t) ∷ []) (sym (append-nil (flat_map unit_text us)))
cut_from-last (string us by_backslash) is last = ap (put_first (34 ∷ [])) (cut_from-units us (92 ∷ []) is)

-- what a part's pieces say
record PieceBy (p : Piece) (ps : List Piece) : Type 0 where
  valid : is_piece p ≡ true
  alone : (not (is_last p) || is_empty ps) ≡ true
  others : is_part ps ≡ true

piece_by : (p : Piece) (ps : List Piece) → is_part (p ∷ ps) ≡ true → PieceBy p ps
piece_by p ps are =
    let first = and_parts (is_piece p) ((not (is_last p) || is_empty ps) && is_part ps) are in
    let back = and_parts (not (is_last p) || is_empty ps) (is_part ps) first.1 in
    record { valid = first.0; alone = back.0; others = back.1 }

no_piece : (ps : List Piece) → is_empty ps ≡ true → ps ≡ []
no_piece [] is = refl
no_piece (p ∷ ps) is = absurd (cc)

not_true : (b : Bool) → not b ≡ true → b ≡ false
not_true true is = absurd (cc)
not_true false is = refl

-- a part before a comma
cut_from-part : (ps : List Piece) (text : List ℕ) → is_part ps ≡ true → is_closed ps ≡ true
    → cut_from Outside (part_text ps ++ text) ≡ put_first (part_text ps) (cut_from Outside text)
cut_from-part [] text are closed = sym (put_first-none (cut_from Outside text))
cut_from-part (p ∷ ps) text are closed =
    let first = piece_by p ps are in
    let shut = and_parts (not (is_last p)) (is_closed ps) closed in
    ap (cut_from Outside) (append_assoc (piece_text p) (part_text ps) text)
    ∙ cut_from-piece p (part_text ps ++ text) first.valid (not_true (is_last p) shut.0)
    ∙ ap (put_first (piece_text p)) (cut_from-part ps text first.others shut.1)
    ∙ put_first-twice (piece_text p) (part_text ps) (cut_from Outside text)

-- the last part
cut_from-end : (ps : List Piece) → is_part ps ≡ true → cut_from Outside (part_text ps) ≡ part_text ps ∷ []
cut_from-end [] are = refl
cut_from-end (p ∷ ps) are =
    let first = piece_by p ps are in
    elim (is_last p) as (λ v. is_last p ≡ v → (not v || is_empty ps) ≡ true → cut_from Outside (part_text (p ∷ ps)) ≡ part_text (p ∷ ps) ∷ []) [
      | true ↦ λ last alone.
          let none : ps ≡ [] = no_piece ps alone in
          let whole : part_text (p ∷ ps) ≡ piece_text p = ap (λ qs. piece_text p ++ part_text qs) none ∙ append-nil (piece_text p) in
          ap (cut_from Outside) whole ∙ cut_from-last p first.valid last ∙ ap (λ t. t ∷ []) (sym whole)
      | false ↦ λ goes_on alone.
          cut_from-piece p (part_text ps) first.valid goes_on ∙ ap (put_first (piece_text p)) (cut_from-end ps first.others)
    ] refl first.alone

-- the walk finds the parts
cut_from-parts : (parts : List (List Piece)) → are_parts parts ≡ true → cut_from Outside (parts_text parts) ≡ map part_text parts
cut_from-parts [] are = absurd (cc)
cut_from-parts (part ∷ []) are = cut_from-end part are
cut_from-parts (part ∷ (next ∷ parts)) are =
    let first = and_parts (is_part part && is_closed part) (are_parts (next ∷ parts)) are in
    let valid = and_parts (is_part part) (is_closed part) first.0 in
    cut_from-part part (44 ∷ parts_text (next ∷ parts)) valid.0 valid.1
    ∙ ap (λ t. t ∷ cut_from Outside (parts_text (next ∷ parts))) (append-nil (part_text part))
    ∙ ap (λ texts. part_text part ∷ texts) (cut_from-parts (next ∷ parts) first.1)

trimmed_parts : (parts : List (List Piece)) → map (trimmed is_tab_or_space) (map part_text parts) ≡ map trimmed_part parts
trimmed_parts [] = refl
trimmed_parts (part ∷ parts) = ap (λ texts. trimmed_part part ∷ texts) (trimmed_parts parts)

cut_is : (value : List ℕ) (parts : List (List Piece)) → IsCut value parts → parts_of value ≡ map trimmed_part parts
unfolding parts_of
cut_is value parts cut =
    ap (λ text. map (trimmed is_tab_or_space) (cut_from Outside text)) cut.whole
    ∙ ap (map (trimmed is_tab_or_space)) (cut_from-parts parts cut.are)
    ∙ trimmed_parts parts

-- each value has parts
record CutOf (value : List ℕ) : Type 0 where
  parts : List (List Piece)
  is : IsCut value parts

-- a piece before the first part
with_piece : Piece → List (List Piece) → List (List Piece)
with_piece p [] = []
with_piece p (part ∷ parts) = (p ∷ part) ∷ parts

text-with_piece : (p : Piece) (parts : List (List Piece)) → are_parts parts ≡ true
    → parts_text (with_piece p parts) ≡ piece_text p ++ parts_text parts
unfolding with_piece
text-with_piece p [] are = absurd (cc)
text-with_piece p (part ∷ []) are = refl
text-with_piece p (part ∷ (next ∷ parts)) are =
    append_assoc (piece_text p) (part_text part) (44 ∷ parts_text (next ∷ parts))

part-with : (p : Piece) (part : List Piece) → is_piece p ≡ true → is_last p ≡ false → is_part part ≡ true → is_part (p ∷ part) ≡ true
part-with p part valid goes_on are =
    and_from (is_piece p) ((not (is_last p) || is_empty part) && is_part part) valid
    (and_from (not (is_last p) || is_empty part) (is_part part) (rw goes_on refl) are)

are-with_piece : (p : Piece) (parts : List (List Piece)) → is_piece p ≡ true → is_last p ≡ false → are_parts parts ≡ true
    → are_parts (with_piece p parts) ≡ true
unfolding with_piece
are-with_piece p [] valid goes_on are = are
are-with_piece p (part ∷ []) valid goes_on are = part-with p part valid goes_on are
are-with_piece p (part ∷ (next ∷ parts)) valid goes_on are =
    let first = and_parts (is_part part && is_closed part) (are_parts (next ∷ parts)) are in
    let both = and_parts (is_part part) (is_closed part) first.0 in
    and_from (is_part (p ∷ part) && is_closed (p ∷ part)) (are_parts (next ∷ parts))
    (and_from (is_part (p ∷ part)) (is_closed (p ∷ part)) (part-with p part valid goes_on both.0)
    (and_from (not (is_last p)) (is_closed part) (ap not goes_on) both.1)) first.1

cut-piece : (p : Piece) (text : List ℕ) → is_piece p ≡ true → is_last p ≡ false → CutOf text → CutOf (piece_text p ++ text)
cut-piece p text valid goes_on rest = record {
  parts = with_piece p rest.parts;
  is = record {
    whole = ap (λ back. piece_text p ++ back) rest.is.whole ∙ sym (text-with_piece p rest.parts rest.is.are);
    are = are-with_piece p rest.parts valid goes_on rest.is.are;
  };
}

cut-last : (p : Piece) → is_piece p ≡ true → CutOf (piece_text p)
cut-last p valid = record {
  parts = (p ∷ []) ∷ [];
  is = record {
    whole = sym (append-nil (piece_text p));
    are = and_from (is_piece p) ((not (is_last p) || true) && true) valid (either (not (is_last p)));
  };
} where
  either : (b : Bool) → ((b || true) && true) ≡ true
  either true = refl
  either false = refl

cut-comma : (text : List ℕ) → CutOf text → CutOf (44 ∷ text)
cut-comma text rest =
    elim (rest.parts) as (λ ps. IsCut text ps → CutOf (44 ∷ text)) [
      | [] ↦ λ cut. let lie : false ≡ true = cut.are in absurd (cc)
      | part ∷ parts ↦ λ cut. record {
        parts = [] ∷ (part ∷ parts);
        is = record { whole = ap (λ back. 44 ∷ back) cut.whole; are = cut.are };
      }
    ] rest.is

cut-string : (text : List ℕ) (us : List QuotedUnit) (rest : List ℕ) → list_all is_unit us ≡ true → stops_units rest ≡ true
    → text ≡ flat_map unit_text us ++ rest → ((t : List ℕ) → length t ≤ length rest → CutOf t) → CutOf (34 ∷ text)
cut-string text us [] are stops whole more =
    subst (λ t. CutOf (34 ∷ t)) (sym whole) (cut-last (string us by_end) are)
cut-string text us (b ∷ rest) are stops whole more =
    elim (eqb_tells b 34) [
      | inl quote ↦
          let same : piece_text (string us by_quote) ++ rest ≡ 34 ∷ text =
          ap (λ t. 34 ∷ t) (append_assoc (flat_map unit_text us) (34 ∷ []) rest ∙ ap (λ c. flat_map unit_text us ++ (c ∷ rest)) (sym quote.1) ∙ sym whole) in
          subst CutOf same (cut-piece (string us by_quote) rest are refl (more rest (omega arith)))
      | inr unquoted ↦
          let slash = and_parts (nat_eq b 92) (is_empty rest) (ap (λ v. v || (nat_eq b 92 && is_empty rest)) (sym unquoted.0) ∙ stops) in
          let is : b ≡ 92 = eqb-true b 92 slash.0 in
          let none : rest ≡ [] = nothing rest slash.1 in
          let same : piece_text (string us by_backslash) ≡ 34 ∷ text =
          ap (λ t. 34 ∷ t) (ap (λ t. flat_map unit_text us ++ (92 ∷ t)) (sym none) ∙ ap (λ c. flat_map unit_text us ++ (c ∷ rest)) (sym is) ∙ sym whole) in
          subst CutOf same (cut-last (string us by_backslash) are)
    ] where
      nothing : (t : List ℕ) → is_empty t ≡ true → t ≡ []
      nothing [] is = refl
      nothing (c ∷ t) is = absurd (cc)

-- by the length of the value
cuts_within : (most : ℕ) (text : List ℕ) → length text ≤ most → CutOf text
cuts_within most [] within = record { parts = [] ∷ []; is = record { whole = refl; are = refl } }
cuts_within zero (b ∷ text) within = absurd (omega arith)
cuts_within (suc most) (b ∷ text) within =
    elim (eqb_tells b 44) [
      | inl comma ↦ subst (λ c. CutOf (c ∷ text)) (sym comma.1) (cut-comma text (cuts_within most text (omega arith)))
      | inr other ↦ elim (eqb_tells b 34) [
        | inl quote ↦
            let units = units_of text in
            let shorter : length units.rest ≤ most = omega (arith, simp length-append at (ap length units.whole)) in
            subst (λ c. CutOf (c ∷ text)) (sym quote.1)
            (cut-string text units.units units.rest units.are units.stops units.whole (λ t less. cuts_within most t (omega arith)))
        | inr unquoted ↦ cut-piece (bare b) text (rw (other.0, unquoted.0) refl) refl (cuts_within most text (omega arith))
      ]
    ]

pub one_cut : (value : List ℕ) → HasOneCut value
one_cut value =
    let cut = cuts_within (length value) value (omega arith) in (
      (cut.parts, cut.is, cut_is value cut.parts cut.is),
      λ texts is. is.2 ∙ sym (cut_is value is.0 is.1),
    )

-- a text of which the bytes up to a place are in its first part
pub WalkedTo : List ℕ → ℕ → State → Type 0
WalkedTo text i state = cut_from Outside text ≡ put_first (take i text) (cut_from state (drop i text))

pub walk-start : (text : List ℕ) → WalkedTo text 0 Outside
unfolding WalkedTo
walk-start text = sym (put_first-none (cut_from Outside text))

byte_at : (text : List ℕ) (i b : ℕ) → i < length text → b ≡ get_or text i 0 → drop i text ≡ b ∷ drop (i + 1) text
byte_at text i b less is =
    let next : suc i ≡ i + 1 = omega arith in
    drop-cons text i 0 less ∙ ap (λ c. c ∷ drop (suc i) text) (sym is) ∙ ap (λ n. b ∷ drop n text) next

pub walk-more : (text : List ℕ) (i b : ℕ) (state : State) → i < length text → b ≡ get_or text i 0 → is_cut state b ≡ false
    → WalkedTo text i state → WalkedTo text (i + 1) (state_after state b)
unfolding WalkedTo
walk-more text i b state less is stays before =
    before ∙ ap (λ back. put_first (take i text) (cut_from state back)) (byte_at text i b less is)
    ∙ ap (put_first (take i text)) (cut_from-byte state b (drop (i + 1) text) stays)
    ∙ put_first-twice (take i text) (b ∷ []) (cut_from (state_after state b) (drop (i + 1) text))
    ∙ ap (λ prefix. put_first prefix (cut_from (state_after state b) (drop (i + 1) text))) (ap (λ c. take i text ++ c ∷ []) is ∙ sym (take_more text i 0 less))

pub walk-cut : (text : List ℕ) (i b : ℕ) (state : State) → i < length text → b ≡ get_or text i 0 → is_cut state b ≡ true
    → WalkedTo text i state → cut_from Outside text ≡ take i text ∷ cut_from Outside (take (length text - (i + 1)) (drop (i + 1) text))
unfolding WalkedTo
walk-cut text i b state less is cuts before =
    let here : cut_from state (b ∷ drop (i + 1) text) ≡ [] ∷ cut_from Outside (drop (i + 1) text) = rw cuts refl in
    before ∙ ap (λ back. put_first (take i text) (cut_from state back)) (byte_at text i b less is)
    ∙ ap (put_first (take i text)) here
    ∙ ap (λ t. t ∷ cut_from Outside (drop (i + 1) text)) (append-nil (take i text))
    ∙ ap (λ t. take i text ∷ cut_from Outside t) (sym (take_all (length text - (i + 1)) (drop (i + 1) text) (omega (arith, length-drop (i + 1) text))))

pub walk-end : (text : List ℕ) (i : ℕ) (state : State) → length text ≤ i → WalkedTo text i state → cut_from Outside text ≡ text ∷ []
unfolding WalkedTo
walk-end text i state over before =
    before ∙ ap (λ back. put_first (take i text) (cut_from state back)) (drop_of_length-le text over)
    ∙ ap (λ t. t ∷ []) (append-nil (take i text) ∙ take_all i text over)

-- the first part and the others
pub parts_of-cut : (text part : List ℕ) (rest : Option (List ℕ)) → cut_from Outside text ≡ part ∷ cuts_left rest
    → parts_of text ≡ trimmed is_tab_or_space part ∷ parts_left_of rest
unfolding parts_of
parts_of-cut text part None cut = ap (map (trimmed is_tab_or_space)) cut
parts_of-cut text part (Some rest) cut = ap (map (trimmed is_tab_or_space)) cut
