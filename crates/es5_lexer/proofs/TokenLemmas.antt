-- Where a token stands no trivia do, and the walk along the text finds it.
use Rattle.std.proofs.Common.{◌≡◌, ℕ, ◌-◌, ◌≤◌, Bool, true, false, ◌||◌, ◌==◌, if◌then◌else◌, Option, Some, None, List, [], ◌∷◌, ◌++◌, length, take, bytes_eq, codes, inl, inr, refl, sym, ap, subst, ◌∙◌, append_assoc, length-append, arith}
use Rattle.std.proofs.lemmas.Bool.Decides.{nat_tests}
use Rattle.ucd_category.specs.GeneralCategory.{general_category}
use Rattle.ucd_category.specs.GeneralCategoryRows.{general_category_rows}
use Rattle.ucd_table.specs.Rows.{value_in}
use Rattle.text_stream.specs.Classes.{class_of}
use Rattle.es5_lexer.specs.Characters.{is_line_end, is_space, is_start, is_digit, is_line_end_class, is_space_class, is_start_class}
use Rattle.es5_lexer.specs.Names.{IsName, spelled, is_escaped, word_of, token_by, name_token}
use Rattle.es5_lexer.specs.Punctuators.{spelling}
use Rattle.es5_lexer.specs.Numbers.{is_nonzero}
use Rattle.es5_lexer.specs.Patterns.{IsBody}
use Rattle.es5_lexer.specs.Tokens.{IsToken, is_barred, may_precede, Stands}
use Rattle.es5_lexer.specs.Places.{next}
use Rattle.es5_lexer.specs.PlaceResiduals.{IsKind, PlaceResidual}
use Rattle.es5_lexer.specs.Reading.{last, comment, leading_trivium, longest_token, token_of, standing, token_at_from, token_at}
use Rattle.es5_lexer.specs.declared.tokens.Goal.{Goal}
use Rattle.es5_lexer.specs.declared.tokens.Word.{Word}
use Rattle.es5_lexer.specs.declared.tokens.Punct.{Punct}
use Rattle.es5_lexer.specs.declared.tokens.Punct.TheVariants.{LeftBrace, RightBrace, LeftParen, RightParen, LeftBracket, RightBracket, Dot, Semicolon, Comma, Less, Greater, LessEqual, GreaterEqual, Equal, NotEqual, SameEqual, NotSame, Plus, Minus, Star, Percent, PlusPlus, MinusMinus, ShiftLeft, ShiftRight, ShiftRightZero, And, Or, Xor, Not, Tilde, AndAnd, OrOr, Question, Colon, Assign, PlusAssign, MinusAssign, StarAssign, PercentAssign, ShiftLeftAssign, ShiftRightAssign, ShiftRightZeroAssign, AndAssign, OrAssign, XorAssign, Slash, SlashAssign}
use Rattle.es5_lexer.specs.declared.tokens.Token.{Token}
use Rattle.es5_lexer.specs.declared.tokens.Token.TheVariants.{Ident, Get, Set, Word as AWord, EscapedWord, Punct as TPunct, Number as TNumber, Text as TText, Pattern as TPattern}
use Rattle.es5_lexer.specs.declared.places.Kind.{Kind}
use Rattle.es5_lexer.specs.declared.places.Kind.TheVariants.{Name as AName, Punct as APunct, Number as ANumber, Text as AText, Pattern as APattern}
use Rattle.es5_lexer.specs.declared.places.Place.{Place}
use Rattle.es5_lexer.specs.declared.longest.Longest.{Longest}
use Rattle.es5_lexer.proofs.Choices.{split, then_in, else_in, is_same, not_or, not_true, never}
use Rattle.es5_lexer.proofs.ClassLemmas.{slash, digit, start-no_blank}
use Rattle.es5_lexer.proofs.PlaceLemmas.{goes, ends_here}
use Rattle.es5_lexer.proofs.FirstLemmas.{first_goes, empty_no_kind}
use Rattle.es5_lexer.proofs.LongestLemmas.{IsLongest, Finds, nothing, longest, finds}
use Rattle.es5_lexer.proofs.ListLemmas.{append-none, last-is, prefix-is}

-- tokens and kinds

-- a token is of a kind
pub record OfKind (g : Goal) (t : Token) (u : List ℕ) : Type 0 where
  pub kind : Kind
  pub is : IsKind g kind u
  pub gives : token_of kind u ≡ t

pub token_kind : (g : Goal) (t : Token) (u : List ℕ) → IsToken g t u → OfKind g t u
token_kind g TNumber u h = record { kind = ANumber; is = h; gives = refl }
token_kind g TText u h = record { kind = AText; is = h; gives = refl }
token_kind g TPattern u h = record { kind = APattern; is = h; gives = refl }
token_kind g (TPunct p) u h = record { kind = APunct p; is = h; gives = refl }
token_kind g Ident u h = record { kind = AName; is = h.0; gives = h.1 }
token_kind g Get u h = record { kind = AName; is = h.0; gives = h.1 }
token_kind g Set u h = record { kind = AName; is = h.0; gives = h.1 }
token_kind g (AWord w) u h = record { kind = AName; is = h.0; gives = h.1 }
token_kind g EscapedWord u h = record { kind = AName; is = h.0; gives = h.1 }

is_named : Token → Bool
is_named Ident = true
is_named Get = true
is_named Set = true
is_named (AWord w) = true
is_named EscapedWord = true
is_named _ = false

ident_named : (a b : Bool) → is_named (if a then Get else if b then Set else Ident) ≡ true
unfolding is_named
ident_named true b = refl
ident_named false true = refl
ident_named false false = refl

named_by : (b : Bool) (o : Option Word) (v : List ℕ) → is_named (token_by b o v) ≡ true
unfolding is_named
named_by false (Some w) v = refl
named_by true (Some w) v = refl
named_by false None v = ident_named (bytes_eq (codes "get") v) (bytes_eq (codes "set") v)
named_by true None v = refl

named_unbarred : (t : Token) (c : ℕ) → is_named t ≡ true → false ≡ is_barred t c
unfolding is_named
named_unbarred Ident c h = refl
named_unbarred Get c h = refl
named_unbarred Set c h = refl
named_unbarred (AWord w) c h = refl
named_unbarred EscapedWord c h = refl
named_unbarred TNumber c h = absurd cc
named_unbarred TText c h = absurd cc
named_unbarred TPattern c h = absurd cc
named_unbarred (TPunct p) c h = absurd cc

-- no character is barred after a name
pub name_unbarred : (u : List ℕ) (c : ℕ) → false ≡ is_barred (name_token u) c
name_unbarred u c = named_unbarred (name_token u) c (named_by (is_escaped u) (word_of (spelled u)) (spelled u))

name_is : (g : Goal) (t : Token) (u : List ℕ) → name_token u ≡ t → is_named t ≡ true → IsName u → IsToken g t u
unfolding is_named
name_is g Ident u e n h = (h, e)
name_is g Get u e n h = (h, e)
name_is g Set u e n h = (h, e)
name_is g (AWord w) u e n h = (h, e)
name_is g EscapedWord u e n h = (h, e)
name_is g TNumber u e n h = absurd cc
name_is g TText u e n h = absurd cc
name_is g TPattern u e n h = absurd cc
name_is g (TPunct p) u e n h = absurd cc

pub kind_token : (g : Goal) (k : Kind) (u : List ℕ) → IsKind g k u → IsToken g (token_of k u) u
kind_token g AName u h = name_is g (name_token u) u refl (named_by (is_escaped u) (word_of (spelled u)) (spelled u)) h
kind_token g (APunct p) u h = h
kind_token g ANumber u h = h
kind_token g AText u h = h
kind_token g APattern u h = h

-- a text is of one kind

rest_kind : (s : Place) (u : List ℕ) (k l : Kind) → PlaceResidual s k u → PlaceResidual s l u → k ≡ l
rest_kind s [] k l h i = let e = ends_here s k h in let f = ends_here s l i in cc
rest_kind s (c ∷ u) k l h i = rest_kind (next s c) u k l (goes s k c u h) (goes s l c u i)

pub one_kind : (g : Goal) (u : List ℕ) (k l : Kind) → IsKind g k u → IsKind g l u → k ≡ l
one_kind g [] k l h i = absurd (empty_no_kind g k h)
one_kind g (c ∷ u) k l h i = rest_kind _ u k l (first_goes g k c u h) (first_goes g l c u i)

-- no trivia where a token stands

no_comment : (r : List ℕ) → may_precede (TPunct Slash) r ≡ true → comment r ≡ None
no_comment [] h = refl
no_comment (c ∷ r) h =
    let a = not_or (c == 47) (c == 42) h in
    else_in (λ (o : Option _). o ≡ None) (c == 47) _ _ a.0
    (else_in (λ (o : Option _). o ≡ None) (c == 42) _ _ (not_true (c == 42) a.1) refl)

punct_no : (p : Punct) (r : List ℕ) → may_precede (TPunct p) r ≡ true → leading_trivium (spelling p ++ r) ≡ None
unfolding class_of general_category general_category_rows value_in
punct_no LeftBrace r h = refl
punct_no RightBrace r h = refl
punct_no LeftParen r h = refl
punct_no RightParen r h = refl
punct_no LeftBracket r h = refl
punct_no RightBracket r h = refl
punct_no Dot r h = refl
punct_no Semicolon r h = refl
punct_no Comma r h = refl
punct_no Less r h = refl
punct_no Greater r h = refl
punct_no LessEqual r h = refl
punct_no GreaterEqual r h = refl
punct_no Equal r h = refl
punct_no NotEqual r h = refl
punct_no SameEqual r h = refl
punct_no NotSame r h = refl
punct_no Plus r h = refl
punct_no Minus r h = refl
punct_no Star r h = refl
punct_no Percent r h = refl
punct_no PlusPlus r h = refl
punct_no MinusMinus r h = refl
punct_no ShiftLeft r h = refl
punct_no ShiftRight r h = refl
punct_no ShiftRightZero r h = refl
punct_no And r h = refl
punct_no Or r h = refl
punct_no Xor r h = refl
punct_no Not r h = refl
punct_no Tilde r h = refl
punct_no AndAnd r h = refl
punct_no OrOr r h = refl
punct_no Question r h = refl
punct_no Colon r h = refl
punct_no Assign r h = refl
punct_no PlusAssign r h = refl
punct_no MinusAssign r h = refl
punct_no StarAssign r h = refl
punct_no PercentAssign r h = refl
punct_no ShiftLeftAssign r h = refl
punct_no ShiftRightAssign r h = refl
punct_no ShiftRightZeroAssign r h = refl
punct_no AndAssign r h = refl
punct_no OrAssign r h = refl
punct_no XorAssign r h = refl
punct_no Slash r h = no_comment r h
punct_no SlashAssign r h = refl

-- characters that are known
at_backslash : (w : List ℕ) → leading_trivium (92 ∷ w) ≡ None
unfolding class_of general_category general_category_rows value_in
at_backslash w = refl

at_zero : (w : List ℕ) → leading_trivium (48 ∷ w) ≡ None
unfolding class_of general_category general_category_rows value_in
at_zero w = refl

at_point : (w : List ℕ) → leading_trivium (46 ∷ w) ≡ None
unfolding class_of general_category general_category_rows value_in
at_point w = refl

at_double : (w : List ℕ) → leading_trivium (34 ∷ w) ≡ None
unfolding class_of general_category general_category_rows value_in
at_double w = refl

at_single : (w : List ℕ) → leading_trivium (39 ∷ w) ≡ None
unfolding class_of general_category general_category_rows value_in
at_single w = refl

at_slash : (w : List ℕ) → comment w ≡ None → leading_trivium (47 ∷ w) ≡ None
unfolding class_of general_category general_category_rows value_in
at_slash w h = h

-- none of the tests that trivia begin by
other : (c : ℕ) (w : List ℕ) → is_line_end c ≡ false → is_space c ≡ false → (c == 47) ≡ false → leading_trivium (c ∷ w) ≡ None
other c w l s e =
    else_in (λ (o : Option _). o ≡ None) (is_line_end c) _ _ l
    (else_in (λ (o : Option _). o ≡ None) (is_space c) _ _ s
    (else_in (λ (o : Option _). o ≡ None) (c == 47) _ _ e refl))

known : (c n : ℕ) (w : List ℕ) → c ≡ n → leading_trivium (n ∷ w) ≡ None → leading_trivium (c ∷ w) ≡ None
known c n w e h = subst (λ (x : ℕ). leading_trivium (x ∷ w) ≡ None) (sym e) h

or_left : (a b : Bool) → (a || b) ≡ false → a ≡ false
or_left true b h = absurd cc
or_left false b h = refl

or_right : (a b : Bool) → (a || b) ≡ false → b ≡ false
or_right true b h = absurd cc
or_right false b h = h

start_no_slash : (c : ℕ) (b : Bool) → (c == 47) ≡ b → is_start c ≡ true → (c == 47) ≡ false
start_no_slash c true e h =
    never (is_start c) h (ap is_start (is_same c 47 e) ∙ ap is_start_class slash)
start_no_slash c false e h = e

nonzero_is : (c : ℕ) → is_nonzero c ≡ true → (is_digit c ≡ true) × ((c == 47) ≡ false)
nonzero_is c h = (grind (arith, nat_tests), grind (arith, nat_tests))

body_no : (u r : List ℕ) → IsBody u → comment (u ++ r) ≡ None
body_no [] r h = absurd h
body_no (c ∷ u) r (inl (p, h)) =
    let a = not_or (c == 42) _ p in
    let b = not_or (c == 47) _ a.1 in
    else_in (λ (o : Option _). o ≡ None) (c == 47) _ _ b.0
    (else_in (λ (o : Option _). o ≡ None) (c == 42) _ _ a.0 refl)
body_no (c ∷ u) r (inr (inl (e, h))) = subst (λ (x : ℕ). comment (x ∷ (u ++ r)) ≡ None) (sym e) refl
body_no (c ∷ u) r (inr (inr (e, h))) = subst (λ (x : ℕ). comment (x ∷ (u ++ r)) ≡ None) (sym e) refl

pub no_trivium : (g : Goal) (k : Kind) (c : ℕ) (u r : List ℕ) → IsKind g k (c ∷ u) → may_precede (token_of k (c ∷ u)) r ≡ true → leading_trivium (c ∷ (u ++ r)) ≡ None
no_trivium g AName c u r (inl (s, h)) f =
    let b = start-no_blank c s in
    other c (u ++ r) (or_left (is_line_end c) (is_space c) b) (or_right (is_line_end c) (is_space c) b) (start_no_slash c (c == 47) refl s)
no_trivium g AName c u r (inr (e, h)) f = known c 92 (u ++ r) e (at_backslash (u ++ r))
no_trivium g (APunct p) c u r (e, h) f =
    subst (λ (w : List ℕ). leading_trivium (w ++ r) ≡ None) (sym e) (punct_no p r f)
no_trivium g ANumber c u r (inl (e, h)) f = known c 48 (u ++ r) e (at_zero (u ++ r))
no_trivium g ANumber c u r (inr (inl (z, h))) f =
    let n = nonzero_is c z in
    other c (u ++ r) (ap is_line_end_class (digit c n.0)) (ap is_space_class (digit c n.0)) n.1
no_trivium g ANumber c u r (inr (inr (e, h))) f = known c 46 (u ++ r) e (at_point (u ++ r))
no_trivium g AText c u r (inl (e, h)) f = known c 34 (u ++ r) e (at_double (u ++ r))
no_trivium g AText c u r (inr (e, h)) f = known c 39 (u ++ r) e (at_single (u ++ r))
no_trivium g APattern c u r (d, (e, h)) f = known c 47 (u ++ r) e (at_slash (u ++ r) (body_no u r h))

pub stands-no_trivium : (g : Goal) (t : Token) (u r : List ℕ) → Stands g t u r → leading_trivium (u ++ r) ≡ None
stands-no_trivium g t [] r s = let k = token_kind g t [] s.is in absurd (empty_no_kind g k.kind k.is)
stands-no_trivium g t (c ∷ u) r s =
    let k = token_kind g t (c ∷ u) s.is in
    no_trivium g k.kind c u r k.is (ap (λ (x : Token). may_precede x r) k.gives ∙ s.free)

-- two cuts of a text, the first no longer than the second

record Longer (a b c d : List ℕ) : Type 0 where
  pub more : List ℕ
  pub prefix : c ≡ a ++ more
  pub back : b ≡ more ++ d

longer_cut : (a b c d : List ℕ) → a ++ b ≡ c ++ d → length a ≤ length c → Longer a b c d
longer_cut [] b c d e h = record { more = c; prefix = refl; back = e }
longer_cut (x ∷ a) b [] d e h = absurd (omega arith)
longer_cut (x ∷ a) b (y ∷ c) d e h =
    let head : x ≡ y = cc in let tail : a ++ b ≡ c ++ d = cc in
    let l = longer_cut a b c d tail (omega arith) in
    record { more = l.more; prefix = ap (λ (w : List ℕ). y ∷ w) l.prefix ∙ ap (λ (n : ℕ). n ∷ (a ++ l.more)) (sym head); back = l.back }

none_left : (u a : List ℕ) → length (u ++ a) ≤ length u → a ≡ []
none_left u [] h = refl
none_left u (x ∷ a) h = absurd (omega (arith, length-append u (x ∷ a)))

-- the longest token stands where nothing bars it
pub longest-stands : (g : Goal) (w : List ℕ) (x : Longest) (l : IsLongest g w x) → may_precede (token_of x.kind (l.first ∷ l.others)) l.rest ≡ true → Stands g (token_of x.kind (l.first ∷ l.others)) (l.first ∷ l.others) l.rest
longest-stands g w x l f = record {
  is = kind_token g x.kind (l.first ∷ l.others) l.is;
  longest = λ a b t e h.
      let k = token_kind g t ((l.first ∷ l.others) ++ a) h in
      let whole : w ≡ ((l.first ∷ l.others) ++ a) ++ b = l.splits ∙ ap (λ (r : List ℕ). (l.first ∷ l.others) ++ r) e ∙ sym (append_assoc (l.first ∷ l.others) a b) in
      none_left (l.first ∷ l.others) a (l.most ((l.first ∷ l.others) ++ a) b k.kind whole k.is);
  free = f;
}

-- the token of the longest
pub record Same (g : Goal) (t : Token) (u r : List ℕ) (found : Option Longest) : Type 0 where
  pub one : Longest
  pub is : found ≡ Some one
  pub gives : token_of one.kind u ≡ t
  pub left : one.left ≡ length r

pub stands-longest : (g : Goal) (t : Token) (u r : List ℕ) → Stands g t u r → Same g t u r (longest_token g (u ++ r))
stands-longest g t u r s = by_found _ (finds g (u ++ r))
  where
    kind : OfKind g t u
    kind = token_kind g t u s.is

    by_longest : (found : Option Longest) (x : Longest) → found ≡ Some x → IsLongest g (u ++ r) x → Same g t u r found
    by_longest found x e l =
        let cut = longer_cut u r (l.first ∷ l.others) l.rest l.splits (l.most u r kind.kind refl kind.is) in
        let no_more : cut.more ≡ [] = s.longest cut.more l.rest (token_of x.kind (u ++ cut.more)) cut.back (kind_token g x.kind (u ++ cut.more) (subst (IsKind g x.kind) cut.prefix l.is)) in
        let same_text : l.first ∷ l.others ≡ u = cut.prefix ∙ ap (λ (a : List ℕ). u ++ a) no_more ∙ append-none u in
        let same_rest : r ≡ l.rest = cut.back ∙ ap (λ (a : List ℕ). a ++ l.rest) no_more in
        let same_kind : x.kind ≡ kind.kind = one_kind g u x.kind kind.kind (subst (IsKind g x.kind) same_text l.is) kind.is in
        record {
          one = x;
          is = e;
          gives = ap (λ (k : Kind). token_of k u) same_kind ∙ kind.gives;
          left = l.left ∙ ap length (sym same_rest);
        }

    by_found : (found : Option Longest) → Finds g (u ++ r) found → Same g t u r found
    by_found found (nothing e none) = absurd (none u r kind.kind refl kind.is)
    by_found found (longest x e l) = by_longest found x e l

-- equal pairs have equal parts
pub record Pair (t : Token) (n : ℕ) (s : Token) (m : ℕ) : Type 0 where
  pub token : t ≡ s
  pub left : n ≡ m

token_in : Option (Token × ℕ) → Token
token_in (Some x) = x.0
token_in None = TNumber

left_in : Option (Token × ℕ) → ℕ
left_in (Some x) = x.1
left_in None = 0

pub pair_of : (a b : Token × ℕ) → Some a ≡ Some b → Pair a.0 a.1 b.0 b.1
unfolding token_in left_in
pair_of a b e = record { token = ap token_in e; left = ap left_in e }

-- what stands at the beginning

pub record StandsAt (g : Goal) (w : List ℕ) (t : Token) (n : ℕ) : Type 0 where
  pub prefix : List ℕ
  pub rest : List ℕ
  pub splits : w ≡ prefix ++ rest
  pub left : n ≡ length rest
  pub stands : Stands g t prefix rest

pub token_at-some : (g : Goal) (w : List ℕ) (t : Token) (n : ℕ) → token_at g w ≡ Some (t, n) → StandsAt g w t n
token_at-some g w t n e = by_found (longest_token g w) (finds g w) e
  where
    by_longest : (x : Longest) → IsLongest g w x → standing w x ≡ Some (t, n) → StandsAt g w t n
    by_longest x l f =
        let prefix : take (length w - x.left) w ≡ l.first ∷ l.others = prefix-is w (l.first ∷ l.others) l.rest x.left l.splits l.left in
        let back : last x.left w ≡ l.rest = last-is w (l.first ∷ l.others) l.rest x.left l.splits l.left in
        let tok : token_of x.kind (take (length w - x.left) w) ≡ token_of x.kind (l.first ∷ l.others) = ap (token_of x.kind) prefix in
        elim (split (λ (o : Option (Token × ℕ)). o ≡ Some (t, n)) (may_precede (token_of x.kind (take (length w - x.left) w)) (last x.left w)) _ _ f) [
          | inl (b, h) ↦
              let pair : Pair (token_of x.kind (take (length w - x.left) w)) x.left t n = pair_of _ _ h in
              let same_token = pair.token in let same_left = pair.left in
              let free : may_precede (token_of x.kind (l.first ∷ l.others)) l.rest ≡ true = ap (λ (y : Token). may_precede y l.rest) (sym tok) ∙ ap (may_precede (token_of x.kind (take (length w - x.left) w))) (sym back) ∙ b in
              record {
                prefix = l.first ∷ l.others;
                rest = l.rest;
                splits = l.splits;
                left = sym same_left ∙ l.left;
                stands = subst (λ (y : Token). Stands g y (l.first ∷ l.others) l.rest) (sym tok ∙ same_token) (longest-stands g w x l free);
              }
          | inr (_, h) ↦ absurd cc
        ]

    by_found : (found : Option Longest) → Finds g w found → token_at_from w found ≡ Some (t, n) → StandsAt g w t n
    by_found found (nothing e none) f = let g : token_at_from w None ≡ Some (t, n) = subst (λ (o : Option Longest). token_at_from w o ≡ Some (t, n)) e f in absurd cc
    by_found found (longest x e l) f =
        by_longest x l (subst (λ (o : Option Longest). token_at_from w o ≡ Some (t, n)) e f)

pub stands-token_at : (g : Goal) (t : Token) (u r : List ℕ) → Stands g t u r → token_at g (u ++ r) ≡ Some (t, length r)
stands-token_at g t u r s =
    let l = stands-longest g t u r s in
    let prefix : take (length (u ++ r) - l.one.left) (u ++ r) ≡ u = prefix-is (u ++ r) u r l.one.left refl l.left in
    let back : last l.one.left (u ++ r) ≡ r = last-is (u ++ r) u r l.one.left refl l.left in
    let tok : token_of l.one.kind (take (length (u ++ r) - l.one.left) (u ++ r)) ≡ t = ap (token_of l.one.kind) prefix ∙ l.gives in
    let free : may_precede (token_of l.one.kind (take (length (u ++ r) - l.one.left) (u ++ r))) (last l.one.left (u ++ r)) ≡ true = ap (λ (y : Token). may_precede y (last l.one.left (u ++ r))) tok ∙ ap (may_precede t) back ∙ s.free in
    ap (token_at_from (u ++ r)) l.is
    ∙ then_in (λ (o : Option (Token × ℕ)). o ≡ Some (t, length r)) (may_precede (token_of l.one.kind (take (length (u ++ r) - l.one.left) (u ++ r))) (last l.one.left (u ++ r))) _ _ free
    (ap (λ (y : Token). Some (y, l.one.left)) tok ∙ ap (λ (n : ℕ). Some (t, n)) l.left)

pub longest-left : (g : Goal) (w : List ℕ) (x : Longest) → longest_token g w ≡ Some x → x.left ≤ length w
longest-left g w x e = by_found (longest_token g w) (finds g w) e
  where
    by_found : (found : Option Longest) → Finds g w found → found ≡ Some x → x.left ≤ length w
    by_found found (nothing f none) h = absurd cc
    by_found found (longest y f l) h =
        let same : y ≡ x = cc in
        let left : x.left ≡ length l.rest = ap (λ (z : Longest). z.left) (sym same) ∙ l.left in
        omega (arith, ap length l.splits, length-append l.others l.rest, left)

pub longest-name : (g : Goal) (w : List ℕ) (x : Longest) → longest_token g w ≡ Some x → x.kind ≡ AName → IsName (take (length w - x.left) w)
longest-name g w x e k = by_found (longest_token g w) (finds g w) e
  where
    by_found : (found : Option Longest) → Finds g w found → found ≡ Some x → IsName (take (length w - x.left) w)
    by_found found (nothing f none) h = absurd cc
    by_found found (longest y f l) h =
        let same : y ≡ x = cc in
        let left : x.left ≡ length l.rest = ap (λ (z : Longest). z.left) (sym same) ∙ l.left in
        let kind : y.kind ≡ AName = ap (λ (z : Longest). z.kind) same ∙ k in
        let name : IsKind g AName (l.first ∷ l.others) = subst (λ (z : Kind). IsKind g z (l.first ∷ l.others)) kind l.is in
        subst IsName (sym (prefix-is w (l.first ∷ l.others) l.rest x.left l.splits left)) name
