-- The first character of a token: what may come after it, and back.
use Rattle.std.proofs.Common.{◌≡◌, ℕ, true, false, ◌==◌, if◌then◌else◌, Option, Some, None, List, [], ◌∷◌, ◌++◌, inl, inr, refl, sym, ap, subst, ◌∙◌, append_assoc, arith}
use Rattle.std.proofs.lemmas.Bool.Decides.{nat_tests}
use Rattle.ucd_category.specs.GeneralCategory.{general_category}
use Rattle.ucd_category.specs.GeneralCategoryRows.{general_category_rows}
use Rattle.ucd_table.specs.Rows.{value_in}
use Rattle.text_stream.specs.Classes.{class_of}
use Rattle.es5_lexer.specs.Characters.{is_start, is_digit, is_start_class}
use Rattle.es5_lexer.specs.Suits.{is_div}
use Rattle.es5_lexer.specs.Punctuators.{spelling, is_under}
use Rattle.es5_lexer.specs.Numbers.{is_nonzero, IsFraction, IsNumber}
use Rattle.es5_lexer.specs.Places.{mark, by_equals, by_itself, longer, past_slash, after_mark, first}
use Rattle.es5_lexer.specs.PlaceResiduals.{IsKind, MarkResidual, PlaceResidual}
use Rattle.es5_lexer.specs.declared.tokens.Goal.{Goal}
use Rattle.es5_lexer.specs.declared.tokens.Goal.TheVariants.{RegExp}
use Rattle.es5_lexer.specs.declared.tokens.Punct.{Punct}
use Rattle.es5_lexer.specs.declared.tokens.Punct.TheVariants.{LeftBrace, RightBrace, LeftParen, RightParen, LeftBracket, RightBracket, Dot, Semicolon, Comma, Less, Greater, LessEqual, GreaterEqual, Equal, NotEqual, SameEqual, NotSame, Plus, Minus, Star, Percent, PlusPlus, MinusMinus, ShiftLeft, ShiftRight, ShiftRightZero, And, Or, Xor, Not, Tilde, AndAnd, OrOr, Question, Colon, Assign, PlusAssign, MinusAssign, StarAssign, PercentAssign, ShiftLeftAssign, ShiftRightAssign, ShiftRightZeroAssign, AndAssign, OrAssign, XorAssign, Slash, SlashAssign}
use Rattle.es5_lexer.specs.declared.places.Kind.{Kind}
use Rattle.es5_lexer.specs.declared.places.Kind.TheVariants.{Name as AName, Punct as APunct, Number as ANumber, Text as AText, Pattern as APattern}
use Rattle.es5_lexer.specs.declared.places.Place.{Place}
use Rattle.es5_lexer.proofs.ListLemmas.{append-none}
use Rattle.es5_lexer.proofs.Choices.{split, then_in, else_in, is_same}
use Rattle.es5_lexer.proofs.ClassLemmas.{backslash, slash, double_quote, single_quote, point, digit}

abbrev At : Kind → List ℕ → Place → Type 0
At k u s = PlaceResidual s k u

-- what may come after the first character of this text
abbrev FirstRest : Goal → Punct → List ℕ → Type 0
FirstRest g q [] = ⊥
FirstRest g q (c ∷ u) = PlaceResidual (first g c) (APunct q) u

-- each punctuator, a character at a time
whole : (g : Goal) (q : Punct) → is_under g q ≡ true → FirstRest g q (spelling q)
unfolding class_of general_category general_category_rows value_in
whole g LeftBrace h = refl
whole g RightBrace h = refl
whole g LeftParen h = refl
whole g RightParen h = refl
whole g LeftBracket h = refl
whole g RightBracket h = refl
whole g Dot h = refl
whole g Semicolon h = refl
whole g Comma h = refl
whole g Less h = refl
whole g Greater h = refl
whole g LessEqual h = inl (LessEqual, refl, refl)
whole g GreaterEqual h = inl (GreaterEqual, refl, refl)
whole g Equal h = inl (Equal, refl, refl)
whole g NotEqual h = inl (NotEqual, refl, refl)
whole g SameEqual h = inl (Equal, refl, inl (SameEqual, refl, refl))
whole g NotSame h = inl (NotEqual, refl, inl (NotSame, refl, refl))
whole g Plus h = refl
whole g Minus h = refl
whole g Star h = refl
whole g Percent h = refl
whole g PlusPlus h = inl (PlusPlus, refl, refl)
whole g MinusMinus h = inl (MinusMinus, refl, refl)
whole g ShiftLeft h = inl (ShiftLeft, refl, refl)
whole g ShiftRight h = inl (ShiftRight, refl, refl)
whole g ShiftRightZero h = inl (ShiftRight, refl, inl (ShiftRightZero, refl, refl))
whole g And h = refl
whole g Or h = refl
whole g Xor h = refl
whole g Not h = refl
whole g Tilde h = refl
whole g AndAnd h = inl (AndAnd, refl, refl)
whole g OrOr h = inl (OrOr, refl, refl)
whole g Question h = refl
whole g Colon h = refl
whole g Assign h = refl
whole g PlusAssign h = inl (PlusAssign, refl, refl)
whole g MinusAssign h = inl (MinusAssign, refl, refl)
whole g StarAssign h = inl (StarAssign, refl, refl)
whole g PercentAssign h = inl (PercentAssign, refl, refl)
whole g ShiftLeftAssign h = inl (ShiftLeft, refl, inl (ShiftLeftAssign, refl, refl))
whole g ShiftRightAssign h = inl (ShiftRight, refl, inl (ShiftRightAssign, refl, refl))
whole g ShiftRightZeroAssign h = inl (ShiftRight, refl, inl (ShiftRightZero, refl, inl (ShiftRightZeroAssign, refl, refl)))
whole g AndAssign h = inl (AndAssign, refl, refl)
whole g OrAssign h = inl (OrAssign, refl, refl)
whole g XorAssign h = inl (XorAssign, refl, refl)
whole g Slash h = then_in (At (APunct Slash) []) (is_div g) _ _ h refl
whole g SlashAssign h = then_in (At (APunct SlashAssign) (61 ∷ [])) (is_div g) _ _ h (inl (SlashAssign, refl, refl))

-- one that stands where a slash begins a regular expression stands under each goal
under_both : (g : Goal) (q : Punct) → is_under RegExp q ≡ true → is_under g q ≡ true
under_both g Slash h = absurd cc
under_both g SlashAssign h = absurd cc
under_both g _ h = refl

-- the punctuator that a character makes of one is spelled so, and stands where that one does
abbrev Grows : Punct → ℕ → Punct → Type 0
Grows p c q = (spelling q ≡ spelling p ++ c ∷ []) × ((g : Goal) → is_under g p ≡ true → is_under g q ≡ true)

grown : (p : Punct) (c : ℕ) (q r : Punct) → Some q ≡ Some r → spelling q ≡ spelling p ++ c ∷ [] → is_under RegExp q ≡ true → Grows p c r
grown p c q r e s u =
    let same : q ≡ r = cc in subst (λ (x : Punct). Grows p c x) same (s, λ g _. under_both g q u)

slash_grown : (g : Goal) → is_under g Slash ≡ true → is_under g SlashAssign ≡ true
slash_grown g h = h

equals_grown : (p q : Punct) → by_equals p ≡ Some q → Grows p 61 q
equals_grown Less q e = grown Less 61 LessEqual q e refl refl
equals_grown Greater q e = grown Greater 61 GreaterEqual q e refl refl
equals_grown Assign q e = grown Assign 61 Equal q e refl refl
equals_grown Not q e = grown Not 61 NotEqual q e refl refl
equals_grown Equal q e = grown Equal 61 SameEqual q e refl refl
equals_grown NotEqual q e = grown NotEqual 61 NotSame q e refl refl
equals_grown Plus q e = grown Plus 61 PlusAssign q e refl refl
equals_grown Minus q e = grown Minus 61 MinusAssign q e refl refl
equals_grown Star q e = grown Star 61 StarAssign q e refl refl
equals_grown Percent q e = grown Percent 61 PercentAssign q e refl refl
equals_grown ShiftLeft q e = grown ShiftLeft 61 ShiftLeftAssign q e refl refl
equals_grown ShiftRight q e = grown ShiftRight 61 ShiftRightAssign q e refl refl
equals_grown ShiftRightZero q e = grown ShiftRightZero 61 ShiftRightZeroAssign q e refl refl
equals_grown And q e = grown And 61 AndAssign q e refl refl
equals_grown Or q e = grown Or 61 OrAssign q e refl refl
equals_grown Xor q e = grown Xor 61 XorAssign q e refl refl
equals_grown Slash q e =
    let same : SlashAssign ≡ q = cc in subst (λ (x : Punct). Grows Slash 61 x) same (refl, slash_grown)
equals_grown _ q e = absurd cc

-- a character that a punctuator doubles
doubled : (p : Punct) (c n : ℕ) (q r : Punct) → (if c == n then Some q else None) ≡ Some r → spelling q ≡ spelling p ++ n ∷ [] → is_under RegExp q ≡ true → Grows p c r
doubled p c n q r e s u =
    elim (split (λ (o : Option Punct). o ≡ Some r) (c == n) (Some q) None e) [
      | inl (t, f) ↦ grown p c q r f (s ∙ ap (λ (x : ℕ). spelling p ++ x ∷ []) (sym (is_same c n t))) u
      | inr (_, f) ↦ absurd cc
    ]

itself_grown : (p : Punct) (c : ℕ) (q : Punct) → by_itself p c ≡ Some q → Grows p c q
itself_grown Less c q e = doubled Less c 60 ShiftLeft q e refl refl
itself_grown Greater c q e = doubled Greater c 62 ShiftRight q e refl refl
itself_grown ShiftRight c q e = doubled ShiftRight c 62 ShiftRightZero q e refl refl
itself_grown Plus c q e = doubled Plus c 43 PlusPlus q e refl refl
itself_grown Minus c q e = doubled Minus c 45 MinusMinus q e refl refl
itself_grown And c q e = doubled And c 38 AndAnd q e refl refl
itself_grown Or c q e = doubled Or c 124 OrOr q e refl refl
itself_grown _ c q e = absurd cc

longer_grown : (p : Punct) (c : ℕ) (q : Punct) → longer p c ≡ Some q → Grows p c q
longer_grown p c q e =
    elim (split (λ (o : Option Punct). o ≡ Some q) (c == 61) (by_equals p) (by_itself p c) e) [
      | inl (t, f) ↦ subst (λ (x : ℕ). Grows p x q) (sym (is_same c 61 t)) (equals_grown p q f)
      | inr (_, f) ↦ itself_grown p c q f
    ]

-- a text of the other kind where the kinds are the same
as_kind : (g : Goal) (k l : Kind) (w : List ℕ) → k ≡ l → IsKind g l w → IsKind g k w
as_kind g k l w e h = subst (λ (x : Kind). IsKind g x w) (sym e) h

-- a punctuator and what completes it
mark_whole : (g : Goal) (p : Punct) (k : Kind) (u w : List ℕ) → w ≡ spelling p ++ u → is_under g p ≡ true → MarkResidual p k u → IsKind g k w
mark_whole g p k [] w e f h = as_kind g k (APunct p) w h (e ∙ append-none (spelling p), f)
mark_whole g p k (c ∷ u) w e f (inl (q, l, h)) =
    let s = longer_grown p c q l in
    mark_whole g q k u w
    (e ∙ sym (append_assoc (spelling p) (c ∷ []) u) ∙ ap (λ (x : List ℕ). x ++ u) (sym s.0)) (s.1 g f) h
mark_whole g p k (c ∷ u) w e f (inr (dot, d, n, h)) =
    let all : w ≡ 46 ∷ c ∷ u = e ∙ ap (λ (x : Punct). spelling x ++ c ∷ u) dot in
    as_kind g k ANumber w n (subst IsNumber (sym all) (inr (inr (refl, (d, h)))))

-- a punctuator of one character
abbrev Single : ℕ → Punct → Type 0
Single c p = (spelling p ≡ c ∷ []) × (is_under RegExp p ≡ true)

single : (c n : ℕ) (q : Punct) (others : Option Punct) (p : Punct) → (if c == n then Some q else others) ≡ Some p → spelling q ≡ n ∷ [] → is_under RegExp q ≡ true → (others ≡ Some p → Single c p) → Single c p
single c n q others p e s u further =
    elim (split (λ (o : Option Punct). o ≡ Some p) (c == n) (Some q) others e) [
      | inl (t, f) ↦ let same : q ≡ p = cc in subst (λ (x : Punct). Single c x) same (s ∙ ap (λ (x : ℕ). x ∷ []) (sym (is_same c n t)), u)
      | inr (_, f) ↦ further f
    ]

mark_single : (c : ℕ) (p : Punct) → mark c ≡ Some p → Single c p
mark_single c p e =
    single c 123 LeftBrace _ p e refl refl (λ e1.
    single c 125 RightBrace _ p e1 refl refl (λ e2.
    single c 40 LeftParen _ p e2 refl refl (λ e3.
    single c 41 RightParen _ p e3 refl refl (λ e4.
    single c 91 LeftBracket _ p e4 refl refl (λ e5.
    single c 93 RightBracket _ p e5 refl refl (λ e6.
    single c 46 Dot _ p e6 refl refl (λ e7.
    single c 59 Semicolon _ p e7 refl refl (λ e8.
    single c 44 Comma _ p e8 refl refl (λ e9.
    single c 60 Less _ p e9 refl refl (λ e10.
    single c 62 Greater _ p e10 refl refl (λ e11.
    single c 43 Plus _ p e11 refl refl (λ e12.
    single c 45 Minus _ p e12 refl refl (λ e13.
    single c 42 Star _ p e13 refl refl (λ e14.
    single c 37 Percent _ p e14 refl refl (λ e15.
    single c 38 And _ p e15 refl refl (λ e16.
    single c 124 Or _ p e16 refl refl (λ e17.
    single c 94 Xor _ p e17 refl refl (λ e18.
    single c 33 Not _ p e18 refl refl (λ e19.
    single c 126 Tilde _ p e19 refl refl (λ e20.
    single c 63 Question _ p e20 refl refl (λ e21.
    single c 58 Colon _ p e21 refl refl (λ e22.
    single c 61 Assign _ p e22 refl refl (λ e23.
    absurd cc)))))))))))))))))))))))

-- a token has a first character
pub empty_no_kind : (g : Goal) (k : Kind) → IsKind g k [] → ⊥
empty_no_kind g AName h = h
empty_no_kind g (APunct p) h = subst (λ (w : List ℕ). FirstRest g p w) (sym h.0) (whole g p h.1)
empty_no_kind g ANumber h = h
empty_no_kind g AText h = h
empty_no_kind g APattern h = h.1

nonzero_digit : (c : ℕ) → is_nonzero c ≡ true → (is_digit c ≡ true) × ((c == 92) ≡ false) × ((c == 48) ≡ false)
nonzero_digit c h = (grind (arith, nat_tests), grind (arith, nat_tests), grind (arith, nat_tests))

-- at a character that is known
at_first : (g : Goal) (k : Kind) (c n : ℕ) (u : List ℕ) → c ≡ n → PlaceResidual (first g n) k u → PlaceResidual (first g c) k u
at_first g k c n u e h = subst (λ (x : ℕ). PlaceResidual (first g x) k u) (sym e) h

point_goes : (g : Goal) (u : List ℕ) → IsFraction u → PlaceResidual (first g 46) ANumber u
point_goes g [] h = absurd h
point_goes g (d ∷ u) h = else_in (At ANumber (d ∷ u)) (is_start 46) _ _ (ap is_start_class point) (inr (refl, h.0, refl, h.1))

pub first_goes : (g : Goal) (k : Kind) (c : ℕ) (u : List ℕ) → IsKind g k (c ∷ u) → PlaceResidual (first g c) k u
first_goes g AName c u (inl (s, p)) = then_in (At AName u) (is_start c) _ _ s (refl, p)
first_goes g AName c u (inr (e, p)) =
    at_first g AName c 92 u e (else_in (At AName u) (is_start 92) _ _ (ap is_start_class backslash) (refl, p))
first_goes g (APunct q) c u (e, f) = subst (λ (w : List ℕ). FirstRest g q w) (sym e) (whole g q f)
first_goes g ANumber c u (inl (e, h)) =
    at_first g ANumber c 48 u e (else_in (At ANumber u) (is_start 48) _ _ (ap is_start_class (digit 48 refl)) (refl, h))
first_goes g ANumber c u (inr (inl (z, h))) =
    let d = nonzero_digit c z in
    else_in (At ANumber u) (is_start c) _ _ (ap is_start_class (digit c d.0))
    (else_in (At ANumber u) (c == 92) _ _ d.1
    (else_in (At ANumber u) (c == 48) _ _ d.2 (then_in (At ANumber u) (is_nonzero c) _ _ z (refl, h))))
first_goes g ANumber c u (inr (inr (e, h))) = at_first g ANumber c 46 u e (point_goes g u h)
first_goes g AText c u (inl (e, h)) =
    at_first g AText c 34 u e (else_in (At AText u) (is_start 34) _ _ (ap is_start_class double_quote) (refl, h))
first_goes g AText c u (inr (e, h)) =
    at_first g AText c 39 u e (else_in (At AText u) (is_start 39) _ _ (ap is_start_class single_quote) (refl, h))
first_goes g APattern c u (d, (e, h)) =
    at_first g APattern c 47 u e
    (else_in (At APattern u) (is_start 47) _ _ (ap is_start_class slash)
    (else_in (At APattern u) (is_div g) _ _ d (refl, h)))

slash_comes : (g : Goal) (k : Kind) (c : ℕ) (u : List ℕ) → c ≡ 47 → PlaceResidual (past_slash g) k u → IsKind g k (c ∷ u)
slash_comes g k c u e h =
    elim (split (At k u) (is_div g) _ _ h) [
      | inl (d, r) ↦ mark_whole g Slash k u (c ∷ u) (ap (λ (x : ℕ). x ∷ u) e) d r
      | inr (d, (f, r)) ↦ as_kind g k APattern (c ∷ u) f (d, (e, r))
    ]

mark_comes : (g : Goal) (k : Kind) (c : ℕ) (u : List ℕ) (o : Option Punct) → mark c ≡ o → PlaceResidual (after_mark o) k u → IsKind g k (c ∷ u)
mark_comes g k c u (Some p) e h =
    let s = mark_single c p e in
    mark_whole g p k u (c ∷ u) (ap (λ (x : List ℕ). x ++ u) (sym s.0)) (under_both g p s.1) h
mark_comes g k c u None e h = absurd h

pub first_comes : (g : Goal) (k : Kind) (c : ℕ) (u : List ℕ) → PlaceResidual (first g c) k u → IsKind g k (c ∷ u)
first_comes g k c u h =
    elim (split (At k u) (is_start c) _ _ h) [
      | inl (t, (e, r)) ↦ as_kind g k AName (c ∷ u) e (inl (t, r))
      | inr (_, h1) ↦ elim (split (At k u) (c == 92) _ _ h1) [
        | inl (t, (e, r)) ↦ as_kind g k AName (c ∷ u) e (inr (is_same c 92 t, r))
        | inr (_, h2) ↦ elim (split (At k u) (c == 48) _ _ h2) [
          | inl (t, (e, r)) ↦ as_kind g k ANumber (c ∷ u) e (inl (is_same c 48 t, r))
          | inr (_, h3) ↦ elim (split (At k u) (is_nonzero c) _ _ h3) [
            | inl (t, (e, r)) ↦ as_kind g k ANumber (c ∷ u) e (inr (inl (t, r)))
            | inr (_, h4) ↦ elim (split (At k u) (c == 34) _ _ h4) [
              | inl (t, (e, r)) ↦ as_kind g k AText (c ∷ u) e (inl (is_same c 34 t, r))
              | inr (_, h5) ↦ elim (split (At k u) (c == 39) _ _ h5) [
                | inl (t, (e, r)) ↦ as_kind g k AText (c ∷ u) e (inr (is_same c 39 t, r))
                | inr (_, h6) ↦ elim (split (At k u) (c == 47) _ _ h6) [
                  | inl (t, r) ↦ slash_comes g k c u (is_same c 47 t) r
                  | inr (_, r) ↦ mark_comes g k c u (mark c) refl r
                ]
              ]
            ]
          ]
        ]
      ]
    ]
