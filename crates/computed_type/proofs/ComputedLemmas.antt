-- What the answer is of a response that states a type, and of one that states none.
use Rattle.std.proofs.Common.{◌≡◌, ℕ, Bool, List, Option, None, Some, refl, sym, ap, subst, ◌∙◌}
use Rattle.std.specs.Borrow.{Bor}
use Rattle.mime_types.specs.Mime.{Mime}
use Rattle.mime_types.specs.Sets.{main_of, sub_of}
use Rattle.mime_types.specs.declared.essences.Essence.{Essence}
use Rattle.header_values.specs.Extracted.{IsExtracted, IsExtractedEssence}
use Rattle.header_values.specs.Questions.{is_nosniff}
use Rattle.header_values.proofs.ExtractLemmas.{one_extracted}
use Rattle.computed_type.specs.declared.answer.Computed.{Computed}
use Rattle.computed_type.specs.declared.answer.Computed.TheVariants.{Supplied, Known}
use Rattle.computed_type.specs.Plain.{is_default_plain}
use Rattle.computed_type.specs.Unknown.{first_of, unknown_type}
use Rattle.computed_type.specs.Rules.{Response, rules_of, type_instead}
use Rattle.computed_type.specs.Asked.{IsAsked}
use Rattle.computed_type.specs.Computed.{response_of, essence_of, essence_text, HasType, Gives, IsComputed}

-- what is asked of a response whose fields state this essence
asked_of : (fields : List (List ℕ × List ℕ)) (window : List ℕ) (e : Essence) (mime : Mime) (guarded default : Bool)
    → mime.main ≡ main_of e → mime.sub ≡ sub_of e → is_nosniff fields ≡ guarded → is_default_plain fields ≡ default
    → IsAsked (response_of fields (Some mime) window) e guarded default window
asked_of fields window e mime guarded default main sub nosniff plain = record {
  mime = mime;
  supplied = refl;
  main = main;
  sub = sub;
  nosniff = nosniff;
  plain = plain;
  seen = refl;
}

pub known_instead : (fields : List (List ℕ × List ℕ)) (window : List ℕ) (e : Essence) (name : Bor (List ℕ)) (guarded default : Bool)
    → guarded ≡ is_nosniff fields → default ≡ is_default_plain fields → IsExtractedEssence fields e.main.now e.sub.now
    → ((r : Response) → IsAsked r e guarded default window → Some name.now ≡ type_instead r) → IsComputed fields window (Known name)
known_instead fields window e name guarded default nosniff plain (mime, states, main, sub) instead = record {
  supplied = Some mime;
  states = states;
  gives = subst (λ t. Gives (Known name) (Some mime) t)
      (instead (response_of fields (Some mime) window) (asked_of fields window e mime guarded default main sub (sym nosniff) (sym plain))) refl;
}

pub none_instead : (fields : List (List ℕ × List ℕ)) (window : List ℕ) (e : Essence) (guarded default : Bool)
    → guarded ≡ is_nosniff fields → default ≡ is_default_plain fields → IsExtractedEssence fields e.main.now e.sub.now
    → ((r : Response) → IsAsked r e guarded default window → None ≡ type_instead r) → IsComputed fields window (Supplied e)
none_instead fields window e guarded default nosniff plain (mime, states, main, sub) instead = record {
  supplied = Some mime;
  states = states;
  gives = subst (λ t. Gives (Supplied e) (Some mime) t)
      (instead (response_of fields (Some mime) window) (asked_of fields window e mime guarded default main sub (sym nosniff) (sym plain)))
      (sym main, sym sub);
}

-- where no type is stated, the first rule applies
unstated : (fields : List (List ℕ × List ℕ)) (window : List ℕ)
    → type_instead (response_of fields None window) ≡ Some (unknown_type (is_nosniff fields) window)
unfolding type_instead rules_of first_of
unstated fields window = refl

pub nothing_stated : (fields : List (List ℕ × List ℕ)) (window : List ℕ) (name : Bor (List ℕ)) (guarded : Bool) → guarded ≡ is_nosniff fields
    → IsExtracted fields None → name.now ≡ unknown_type guarded window → IsComputed fields window (Known name)
nothing_stated fields window name guarded nosniff states is = record {
  supplied = None;
  states = states;
  gives = subst (λ t. Gives (Known name) None t) (sym (unstated fields window)) (is ∙ ap (λ n. unknown_type n window) nosniff);
}

-- the essence of an answer
essence_is : (computed : Computed) (supplied : Option Mime) (instead : Option (List ℕ)) → Gives computed supplied instead
    → essence_text computed ≡ essence_of supplied instead
essence_is (Supplied e) None None gives = absurd gives
essence_is (Supplied e) None (Some name) gives = absurd gives
essence_is (Supplied e) (Some mime) None gives = rw (gives.0, gives.1) refl
essence_is (Supplied e) (Some mime) (Some name) gives = absurd gives
essence_is (Known name) None None gives = absurd gives
essence_is (Known name) (Some mime) None gives = absurd gives
essence_is (Known name) None (Some essence) gives = gives
essence_is (Known name) (Some mime) (Some essence) gives = gives

pub type_of : (fields : List (List ℕ × List ℕ)) (window : List ℕ) (computed : Computed) → IsComputed fields window computed
    → HasType fields window (essence_text computed)
type_of fields window computed is = record {
  supplied = is.supplied;
  states = is.states;
  is = essence_is computed is.supplied (type_instead (response_of fields is.supplied window)) is.gives;
}

-- fields and a window have one type
pub one_type : (fields : List (List ℕ × List ℕ)) (window a b : List ℕ) → HasType fields window a → HasType fields window b → a ≡ b
one_type fields window a b s t =
    s.is
    ∙ ap (λ supplied. essence_of supplied (type_instead (response_of fields supplied window))) (one_extracted fields s.supplied t.supplied s.states t.states)
    ∙ sym t.is
