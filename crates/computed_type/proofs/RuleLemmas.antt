-- Rules as the code has them.
use Rattle.std.proofs.Common.{◌≡◌, ℕ, Bool, true, false, List, [], ◌∷◌, map, codes, Option, None, Some, unwrap_or, refl, sym, ap, ◌∙◌}
use Rattle.std.specs.Prelude.{◌↔◌, IsTrue}
use Rattle.std.specs.List.{list_any}
use Rattle.std.specs.Option.{option_copied}
use Rattle.std.specs.Borrow.{Bor}
use Rattle.orb_bytes.specs.Bytes.{is_whitespace_byte}
use Rattle.orb_bytes.specs.Trim.{without_leading}
use Rattle.corb_sniffers.specs.Html.{tags, BeginsWithTag}
use Rattle.corb_sniffers.specs.Xml.{SniffsXml}
use Rattle.corb_sniffers.specs.Values.{begins_with_tag, sniffs_xml}
use Rattle.corb_sniffers.proofs.ValueLemmas.{tag_value, xml_value}
use Rattle.computed_type.specs.Unknown.{first_of, begins_with_html}
use Rattle.computed_type.specs.Asked.{rule_of}

same_truth : (a b : Bool) → (a ≡ true → b ≡ true) → (b ≡ true → a ≡ true) → a ≡ b
same_truth true b to from = sym (to refl)
same_truth false true to from = from refl
same_truth false false to from = refl

pub xml_is : (window : List ℕ) (answer : Bool) → IsTrue answer ↔ SniffsXml window → answer ≡ sniffs_xml window
xml_is window answer is =
    let truth = xml_value window in
    same_truth answer (sniffs_xml window) (λ h. truth.1 (is.0 h)) (λ h. is.1 (truth.0 h))

-- no comment begins, and the other tags tell
pub html_is : (window text : List ℕ) (answer : Bool) → text ≡ without_leading is_whitespace_byte window
    → begins_with_tag text (codes "<!--") ≡ false → IsTrue answer ↔ BeginsWithTag text → answer ≡ begins_with_html window
html_is window text answer trimmed none is =
    let truth = tag_value text in
    same_truth answer (list_any (begins_with_tag text) tags) (λ h. truth.1 (is.0 h)) (λ h. is.1 (truth.0 h))
    ∙ both ∙ ap (λ t. list_any (begins_with_tag t) (codes "<!--" ∷ tags)) trimmed
  where
    both : list_any (begins_with_tag text) tags ≡ list_any (begins_with_tag text) (codes "<!--" ∷ tags)
    both = rw none refl

first_shown : (rules : List (Bool × Option (Bor (List ℕ)))) → option_copied (first_of rules) ≡ first_of (map rule_of rules)
unfolding first_of
first_shown [] = refl
first_shown ((true, essence) ∷ rules) = refl
first_shown ((false, essence) ∷ rules) = first_shown rules

-- the first rule that applies
pub first_is : (o : Option (Bor (List ℕ))) (rules : List (Bool × Option (Bor (List ℕ)))) (table : List (Bool × Option (List ℕ)))
    → o ≡ first_of rules → map rule_of rules ≡ table → option_copied o ≡ first_of table
first_is o rules table is same = ap option_copied is ∙ first_shown rules ∙ ap (λ t. first_of t) same

pub or_shown : (o : Option (Bor (List ℕ))) (default : Bor (List ℕ)) → (unwrap_or o default).now ≡ unwrap_or (option_copied o) default.now
or_shown None default = refl
or_shown (Some essence) default = refl
