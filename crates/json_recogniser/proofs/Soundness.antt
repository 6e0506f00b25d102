-- What is read has a tree: where a call gives what is after a piece, the text is that piece, as a
-- tree spells it, and what is after it.
use Rattle.std.proofs.Common.{◌≡◌, ℕ, zero, suc, ◌==◌, ◌&&◌, ◌≤◌, Bool, true, ◌⊎◌, inl, inr, List, [], ◌∷◌, ◌++◌, Option, Some, None, length, codes, nat_eq, refl, ap, ◌∙◌, arith, option_and_then, eqb-true}
use Rattle.std.specs.List.{list_all, starts_with}
use Rattle.std.specs.Char.{is_ascii_digit, is_ascii_hexdigit}
use Rattle.std.proofs.lemmas.Slice.Eq.{starts_is}
use Rattle.std.proofs.lemmas.Bool.Decides.{Decides-eqb}
use Rattle.std.proofs.Math.Nat.{max-le}
use Rattle.std.proofs.lemmas.Bool.{cond_both, and_from, and_parts}
use Rattle.json_recogniser.specs.Grammar.{is_white_space, AreSpaces, AreDigits, is_digit_from_1, is_e, is_sign, Minus, no_minus, minus, Int, zero_alone, from_1, Frac, no_frac, frac, Sign, no_sign, sign, Exp, no_exp, exp, Number, IsGoodInt, IsGoodFrac, IsGoodSign, IsGoodExp, IsGoodNumber, minus_text, int_text, frac_text, sign_text, exp_text, number_text, Char, unescaped, escaped, unicode, is_unescaped, is_escaped, IsGoodChar, AreGoodChars, char_text, chars_text, string_text, Value, false_literal, null_literal, true_literal, object_of_none, object, array_of_none, array, number, string, Members, last_member, member_and, Member, member, Elements, last_element, element_and, Element, element, IsGood, AreGoodMembers, IsGoodMember, AreGoodElements, IsGoodElement, depth, members_depth, member_depth, elements_depth, element_depth, value_text, members_text, member_text, elements_text, element_text, IsJson}
use Rattle.json_recogniser.specs.Reading.{without_leading, after_char, after_digits, after_minus, after_int, after_frac, after_sign, after_exp, after_number, after_word, after_hex, after_escape, after_string_char, after_chars, after_string, after_spaces, after_separator, after_items, after_value_by, after_element_by, after_name, after_colon, after_member_by, after_contents, after_element}
use Rattle.json_recogniser.specs.declared.states.Container.{Container}
use Rattle.json_recogniser.specs.declared.states.Container.TheVariants.{Array, Object}
use Rattle.json_recogniser.proofs.Tools.{nothing, same_some, both_steps, mapped, one_or_other, by_test, when_true}

pub leading : (class : ℕ → Bool) (text : List ℕ) → (prefix : List ℕ) × (list_all class prefix ≡ true) × (text ≡ prefix ++ without_leading class text)
leading class [] = ([], refl, refl)
leading class (c ∷ text) =
    cond_both (class c) (without_leading class text) (c ∷ text)
    (λ rest. (prefix : List ℕ) × (list_all class prefix ≡ true) × (c ∷ text ≡ prefix ++ rest))
    (λ is. let l = leading class text in (c ∷ l.0, and_from _ _ is l.1, ap (λ t. c ∷ t) l.2))
    (λ _. ([], refl, refl))

pub one_char : (expected : ℕ) (text rest : List ℕ) → after_char expected text ≡ Some rest → text ≡ expected ∷ rest
one_char expected [] rest h = nothing h
one_char expected (c ∷ text) rest h =
    let w = when_true (c == expected) _ rest h in
    let is : c ≡ expected = eqb-true c expected w.0 in
    let after : text ≡ rest = same_some w.1 in cc

pub digits-cut : (text rest : List ℕ) → after_digits text ≡ Some rest → (d : ℕ) × (ds : List ℕ) × (is_ascii_digit d ≡ true) × AreDigits ds × (text ≡ d ∷ (ds ++ rest))
digits-cut [] rest h = nothing h
digits-cut (c ∷ text) rest h =
    let w = when_true (is_ascii_digit c) _ rest h in
    let l = leading is_ascii_digit text in
    (c, l.0, w.0, l.1, ap (λ t. c ∷ t) (l.2 ∙ ap (λ t. l.0 ++ t) (same_some w.1)))

pub minus-cut : (text : List ℕ) → (m : Minus) × (text ≡ minus_text m (after_minus text))
minus-cut [] = (no_minus, refl)
minus-cut (c ∷ text) =
    cond_both (c == 0x2D) text (c ∷ text) (λ rest. (m : Minus) × (c ∷ text ≡ minus_text m rest))
    (λ is. (minus, ap (λ x. x ∷ text) (eqb-true c 0x2D is)))
    (λ _. (no_minus, refl))

pub int-cut : (text rest : List ℕ) → after_int text ≡ Some rest → (i : Int) × IsGoodInt i × (text ≡ int_text i rest)
int-cut [] rest h = nothing h
int-cut (c ∷ text) rest h =
    elim (by_test (c == 0x30) _ _ rest h) [
      | inl z ↦ (zero_alone, tt, (let is : c ≡ 0x30 = eqb-true c 0x30 z.0 in let after : text ≡ rest = same_some z.1 in cc))
      | inr n ↦
          let w = when_true (is_digit_from_1 c) _ rest n.1 in
          let l = leading is_ascii_digit text in
          (from_1 c l.0, (w.0, l.1), ap (λ t. c ∷ t) (l.2 ∙ ap (λ t. l.0 ++ t) (same_some w.1)))
    ]

pub frac-cut : (text rest : List ℕ) → after_frac text ≡ Some rest → (f : Frac) × IsGoodFrac f × (text ≡ frac_text f rest)
frac-cut [] rest h = (no_frac, tt, same_some h)
frac-cut (c ∷ text) rest h =
    elim (by_test (c == 0x2E) _ _ rest h) [
      | inl p ↦
          let d = digits-cut text rest p.1 in
          let is : c ≡ 0x2E = eqb-true c 0x2E p.0 in
          (frac d.0 d.1, (d.2, d.3), (let e = d.4 in cc))
      | inr n ↦ (no_frac, tt, same_some n.1)
    ]

pub sign-cut : (text : List ℕ) → (s : Sign) × IsGoodSign s × (text ≡ sign_text s (after_sign text))
sign-cut [] = (no_sign, tt, refl)
sign-cut (c ∷ text) =
    cond_both (is_sign c) text (c ∷ text) (λ rest. (s : Sign) × IsGoodSign s × (c ∷ text ≡ sign_text s rest))
    (λ is. (sign c, is, refl))
    (λ _. (no_sign, tt, refl))

pub exp-cut : (text rest : List ℕ) → after_exp text ≡ Some rest → (x : Exp) × IsGoodExp x × (text ≡ exp_text x rest)
exp-cut [] rest h = (no_exp, tt, same_some h)
exp-cut (c ∷ text) rest h =
    elim (by_test (is_e c) _ _ rest h) [
      | inl e ↦
          let s = sign-cut text in
          let d = digits-cut (after_sign text) rest e.1 in
          (exp c s.0 d.0 d.1, (e.0, s.1, d.2, d.3), ap (λ t. c ∷ t) (s.2 ∙ ap (λ t. sign_text s.0 t) d.4))
      | inr n ↦ (no_exp, tt, same_some n.1)
    ]

pub number-cut : (text rest : List ℕ) → after_number text ≡ Some rest → (n : Number) × IsGoodNumber n × (text ≡ number_text n rest)
number-cut text rest h =
    let e = both_steps after_exp _ rest h in
    let f = both_steps after_frac _ e.0 e.1 in
    let m = minus-cut text in
    let i = int-cut (after_minus text) f.0 f.1 in
    let fc = frac-cut f.0 e.0 f.2 in
    let x = exp-cut e.0 rest e.2 in (
      record { minus_part = m.0; int_part = i.0; frac_part = fc.0; exp_part = x.0 },
      (i.1, fc.1, x.1),
      m.1 ∙ ap (λ t. minus_text m.0 t) (i.2 ∙ ap (λ t. int_text i.0 t) (fc.2 ∙ ap (λ t. frac_text fc.0 t) x.2)),
    )

-- ---- strings

pub hex-cut : (text rest : List ℕ) → after_hex text ≡ Some rest → (a : ℕ) × (b : ℕ) × (c : ℕ) × (d : ℕ) × IsGoodChar (unicode a b c d) × (text ≡ a ∷ b ∷ c ∷ d ∷ rest)
hex-cut [] rest h = nothing h
hex-cut (a ∷ []) rest h = nothing h
hex-cut (a ∷ b ∷ []) rest h = nothing h
hex-cut (a ∷ b ∷ c ∷ []) rest h = nothing h
hex-cut (a ∷ b ∷ c ∷ d ∷ text) rest h =
    let w = when_true (((is_ascii_hexdigit a && is_ascii_hexdigit b) && is_ascii_hexdigit c) && is_ascii_hexdigit d) _ rest h in
    let p = and_parts ((is_ascii_hexdigit a && is_ascii_hexdigit b) && is_ascii_hexdigit c) (is_ascii_hexdigit d) w.0 in
    let q = and_parts (is_ascii_hexdigit a && is_ascii_hexdigit b) (is_ascii_hexdigit c) p.0 in
    let r = and_parts (is_ascii_hexdigit a) (is_ascii_hexdigit b) q.0 in
    (a, b, c, d, (r.0, r.1, q.1, p.1), ap (λ t. a ∷ b ∷ c ∷ d ∷ t) (same_some w.1))

pub escape-cut : (text rest : List ℕ) → after_escape text ≡ Some rest → (ch : Char) × IsGoodChar ch × (0x5C ∷ text ≡ char_text ch rest)
escape-cut [] rest h = nothing h
escape-cut (c ∷ text) rest h =
    elim (by_test (c == 0x75) _ _ rest h) [
      | inl u ↦
          let x = hex-cut text rest u.1 in
          let is : c ≡ 0x75 = eqb-true c 0x75 u.0 in
          (unicode x.0 x.1 x.2 x.3, x.4, (let e = x.5 in cc))
      | inr n ↦
          let w = when_true (is_escaped c) _ rest n.1 in
          (escaped c, w.0, ap (λ t. 0x5C ∷ c ∷ t) (same_some w.1))
    ]

pub char-cut : (text rest : List ℕ) → after_string_char text ≡ Some rest → (ch : Char) × IsGoodChar ch × (text ≡ char_text ch rest)
char-cut [] rest h = nothing h
char-cut (c ∷ text) rest h =
    elim (by_test (c == 0x5C) _ _ rest h) [
      | inl e ↦
          let x = escape-cut text rest e.1 in
          (x.0, x.1, ap (λ d. d ∷ text) (eqb-true c 0x5C e.0) ∙ x.2)
      | inr n ↦
          let w = when_true (is_unescaped c) _ rest n.1 in
          (unescaped c, w.0, ap (λ t. c ∷ t) (same_some w.1))
    ]

pub chars-cut : (n : ℕ) (text rest : List ℕ) → after_chars n text ≡ Some rest → (cs : List Char) × AreGoodChars cs × (text ≡ chars_text cs rest)
unfolding after_chars
chars-cut zero text rest h = nothing h
chars-cut (suc n) text rest h =
    elim (one_or_other (after_char 0x22 text) _ rest h) [
      | inl last ↦ ([], tt, one_char 0x22 text rest last)
      | inr more ↦
          let s = both_steps (after_chars n) (after_string_char text) rest more in
          let c = char-cut text s.0 s.1 in
          let cs = chars-cut n s.0 rest s.2 in
          (c.0 ∷ cs.0, (c.1, cs.1), c.2 ∙ ap (λ t. char_text c.0 t) cs.2)
    ]

pub word-cut : (word text rest : List ℕ) → after_word word text ≡ Some rest → text ≡ word ++ rest
word-cut word text rest h =
    let w = when_true (starts_with nat_eq text word) _ rest h in
    (starts_is Decides-eqb text word _ refl).0 w.0 ∙ ap (λ t. word ++ t) (same_some w.1)

-- ---- values

pub open_of : Container → ℕ
open_of Array = 0x5B
open_of Object = 0x7B

-- what the function gives is after an array or object of at most so many levels
pub IsSound : ℕ → (Container → List ℕ → Option (List ℕ)) → Type 0
IsSound levels contents =
    (container : Container) (text rest : List ℕ) → contents container text ≡ Some rest → (v : Value) × IsGood v × (depth v ≤ levels) × (open_of container ∷ text ≡ value_text v rest)

-- after an item there is a comma and more, or the end
separated : (more : List ℕ → Option (List ℕ)) (close : ℕ) (text rest : List ℕ) → after_separator more (after_char 0x2C text) close text ≡ Some rest → ((others : List ℕ) × (text ≡ 0x2C ∷ others) × (more others ≡ Some rest)) ⊎ (text ≡ close ∷ rest)
separated more close text rest h =
    by_comma (after_char 0x2C text) refl h
  where
    by_comma : (o : Option (List ℕ)) → after_char 0x2C text ≡ o → after_separator more o close text ≡ Some rest → ((others : List ℕ) × (text ≡ 0x2C ∷ others) × (more others ≡ Some rest)) ⊎ (text ≡ close ∷ rest)
    by_comma (Some others) is h = inl (others, one_char 0x2C text others is, h)
    by_comma None is h = inr (one_char close text rest h)

module _ (levels : ℕ) (contents : Container → List ℕ → Option (List ℕ)) (sound : IsSound levels contents) where
  pub value-cut : (text rest : List ℕ) → after_value_by contents text ≡ Some rest → (v : Value) × IsGood v × (depth v ≤ levels) × (text ≡ value_text v rest)
  unfolding open_of IsSound
  value-cut [] rest h = nothing h
  value-cut (c ∷ text) rest h =
      elim (by_test (c == 0x5B) _ _ rest h) [
        | inl a ↦
            let v = sound Array text rest a.1 in
            (v.0, v.1, v.2, ap (λ d. d ∷ text) (eqb-true c 0x5B a.0) ∙ v.3)
        | inr rest_1 ↦ elim (by_test (c == 0x7B) _ _ rest rest_1.1) [
          | inl o ↦
              let v = sound Object text rest o.1 in
              (v.0, v.1, v.2, ap (λ d. d ∷ text) (eqb-true c 0x7B o.0) ∙ v.3)
          | inr rest_2 ↦ elim (by_test (c == 0x22) _ _ rest rest_2.1) [
            | inl s ↦
                let cs = chars-cut (suc (length text)) text rest s.1 in
                let is : c ≡ 0x22 = eqb-true c 0x22 s.0 in
                let e = cs.2 in
                (string cs.0, cs.1, omega arith, (cc))
            | inr rest_3 ↦ elim (by_test (c == 0x66) _ _ rest rest_3.1) [
              | inl f ↦
                  let is : c ≡ 0x66 = eqb-true c 0x66 f.0 in
                  let e = word-cut (codes "alse") text rest f.1 in
                  (false_literal, tt, omega arith, (cc))
              | inr rest_4 ↦ elim (by_test (c == 0x6E) _ _ rest rest_4.1) [
                | inl n ↦
                    let is : c ≡ 0x6E = eqb-true c 0x6E n.0 in
                    let e = word-cut (codes "ull") text rest n.1 in
                    (null_literal, tt, omega arith, (cc))
                | inr rest_5 ↦ elim (by_test (c == 0x74) _ _ rest rest_5.1) [
                  | inl t ↦
                      let is : c ≡ 0x74 = eqb-true c 0x74 t.0 in
                      let e = word-cut (codes "rue") text rest t.1 in
                      (true_literal, tt, omega arith, (cc))
                  | inr rest_6 ↦
                      let n = number-cut (c ∷ text) rest rest_6.1 in
                      (number n.0, n.1, omega arith, n.2)
                ]
              ]
            ]
          ]
        ]
      ]

  spaces-cut : (text : List ℕ) → (ws : List ℕ) × AreSpaces ws × (text ≡ ws ++ after_spaces text)
  spaces-cut text = leading is_white_space text

  pub element-cut : (text rest : List ℕ) → after_element_by contents text ≡ Some rest → (e : Element) × IsGoodElement e × (element_depth e ≤ levels) × (text ≡ element_text e rest)
  element-cut text rest h =
      let m = mapped after_spaces (after_value_by contents (after_spaces text)) rest h in
      let before = spaces-cut text in
      let v = value-cut (after_spaces text) m.0 m.1 in
      let after = spaces-cut m.0 in (
        element before.0 v.0 after.0,
        (before.1, v.1, after.1),
        v.2,
        before.2 ∙ ap (λ t. before.0 ++ t) (v.3 ∙ ap (λ t. value_text v.0 t) (after.2 ∙ ap (λ t. after.0 ++ t) m.2)),
      )

  pub name-cut : (text rest : List ℕ) → after_name text ≡ Some rest → (ws : List ℕ) × (cs : List Char) × AreSpaces ws × AreGoodChars cs × (text ≡ ws ++ string_text cs rest)
  name-cut text rest h =
      let s = both_steps after_string (after_char 0x22 (after_spaces text)) rest h in
      let ws = spaces-cut text in
      let cs = chars-cut (suc (length s.0)) s.0 rest s.2 in (
        ws.0,
        cs.0,
        ws.1,
        cs.1,
        ws.2 ∙ ap (λ t. ws.0 ++ t) (one_char 0x22 _ s.0 s.1 ∙ ap (λ t. 0x22 ∷ t) cs.2),
      )

  pub colon-cut : (text rest : List ℕ) → after_colon text ≡ Some rest → (ws : List ℕ) × AreSpaces ws × (text ≡ ws ++ (0x3A ∷ rest))
  colon-cut text rest h =
      let ws = spaces-cut text in
      (ws.0, ws.1, ws.2 ∙ ap (λ t. ws.0 ++ t) (one_char 0x3A _ rest h))

  pub member-cut : (text rest : List ℕ) → after_member_by contents text ≡ Some rest → (m : Member) × IsGoodMember m × (member_depth m ≤ levels) × (text ≡ member_text m rest)
  member-cut text rest h =
      let s = both_steps (after_element_by contents) (option_and_then after_colon (after_name text)) rest h in
      let r = both_steps after_colon (after_name text) s.0 s.1 in
      let n = name-cut text r.0 r.1 in
      let c = colon-cut r.0 s.0 r.2 in
      let e = element-cut s.0 rest s.2 in (
        member n.0 n.1 c.0 e.0,
        (n.2, n.3, c.1, e.1),
        e.2,
        n.4 ∙ ap (λ t. n.0 ++ string_text n.1 t) (c.2 ∙ ap (λ t. c.0 ++ (0x3A ∷ t)) e.3),
      )

  elements-cut : (n : ℕ) (text rest : List ℕ) → after_items (after_element_by contents) 0x5D n text ≡ Some rest → (es : Elements) × AreGoodElements es × (elements_depth es ≤ levels) × (text ≡ elements_text es (0x5D ∷ rest))
  unfolding after_items
  elements-cut zero text rest h = nothing h
  elements-cut (suc n) text rest h =
      let s = both_steps (λ t. after_separator (after_items (after_element_by contents) 0x5D n) (after_char 0x2C t) 0x5D t) (after_element_by contents text) rest h in
      let e = element-cut text s.0 s.1 in
      elim (separated (after_items (after_element_by contents) 0x5D n) 0x5D s.0 rest s.2) [
        | inl comma ↦
            let es = elements-cut n comma.0 rest comma.2 in (
              element_and e.0 es.0,
              (e.1, es.1),
              max-le e.2 es.2,
              e.3 ∙ ap (λ t. element_text e.0 t) (comma.1 ∙ ap (λ t. 0x2C ∷ t) es.3),
            )
        | inr last ↦ (last_element e.0, e.1, e.2, e.3 ∙ ap (λ t. element_text e.0 t) last)
      ]

  members-cut : (n : ℕ) (text rest : List ℕ) → after_items (after_member_by contents) 0x7D n text ≡ Some rest → (ms : Members) × AreGoodMembers ms × (members_depth ms ≤ levels) × (text ≡ members_text ms (0x7D ∷ rest))
  unfolding after_items
  members-cut zero text rest h = nothing h
  members-cut (suc n) text rest h =
      let s = both_steps (λ t. after_separator (after_items (after_member_by contents) 0x7D n) (after_char 0x2C t) 0x7D t) (after_member_by contents text) rest h in
      let m = member-cut text s.0 s.1 in
      elim (separated (after_items (after_member_by contents) 0x7D n) 0x7D s.0 rest s.2) [
        | inl comma ↦
            let ms = members-cut n comma.0 rest comma.2 in (
              member_and m.0 ms.0,
              (m.1, ms.1),
              max-le m.2 ms.2,
              m.3 ∙ ap (λ t. member_text m.0 t) (comma.1 ∙ ap (λ t. 0x2C ∷ t) ms.3),
            )
        | inr last ↦ (last_member m.0, m.1, m.2, m.3 ∙ ap (λ t. member_text m.0 t) last)
      ]

pub contents-cut : (levels : ℕ) → IsSound levels (after_contents levels)
unfolding after_contents open_of IsSound
contents-cut zero container text rest h = nothing h
contents-cut (suc levels) Array text rest h =
    let ws = leading is_white_space text in
    elim (one_or_other (after_char 0x5D (after_spaces text)) _ rest h) [
      | inl none ↦ (
        array_of_none ws.0,
        ws.1,
        omega arith,
        ap (λ t. 0x5B ∷ t) (ws.2 ∙ ap (λ t. ws.0 ++ t) (one_char 0x5D _ rest none)),
      )
      | inr some ↦
          let es = elements-cut levels (after_contents levels) (contents-cut levels) (suc (length text)) text rest some in
          (array es.0, es.1, omega (arith, es.2), ap (λ t. 0x5B ∷ t) es.3)
    ]
contents-cut (suc levels) Object text rest h =
    let ws = leading is_white_space text in
    elim (one_or_other (after_char 0x7D (after_spaces text)) _ rest h) [
      | inl none ↦ (
        object_of_none ws.0,
        ws.1,
        omega arith,
        ap (λ t. 0x7B ∷ t) (ws.2 ∙ ap (λ t. ws.0 ++ t) (one_char 0x7D _ rest none)),
      )
      | inr some ↦
          let ms = members-cut levels (after_contents levels) (contents-cut levels) (suc (length text)) text rest some in
          (object ms.0, ms.1, omega (arith, ms.2), ap (λ t. 0x7B ∷ t) ms.3)
    ]

pub recognised : (text : List ℕ) → after_element 1024 text ≡ Some [] → IsJson text
recognised text h =
    let e = element-cut 1024 (after_contents 1024) (contents-cut 1024) text [] h in
    record { tree = e.0; good = e.1; shallow = e.2; spells = e.3 }
