-- The headers that are kept can be written in a head, and none has a name that is dropped.
use Rattle.std.proofs.Common.{◌≡◌, ℕ, Bool, true, false, cond, not, nat_le, [], ◌∷◌, ◌++◌, length, map, refl, arith}
use Rattle.std.specs.Prelude.{filter, codes}
use Rattle.std.specs.List.{list_all, list_any}
use Rattle.std.proofs.lemmas.Bool.{and_parts, or_parts}
use Rattle.std.proofs.lemmas.Bool.Decides.{nat_tests}
use Rattle.httparse.specs.Grammar as grammar
use Rattle.httparse.specs.Grammar.{is_value_byte}
use Rattle.orb_bytes.specs.Bytes.{is_token_byte, is_quoted_token_byte}
use Rattle.orb_bytes.specs.Fields.{same_name, values_of}
use Rattle.http_exchange.proofs.HeadTextLemmas.{IsWritable, AreWritable, as_read, all_pass}
use Rattle.http_exchange.proofs.HeadTreeLemmas.{IsMethod}
use Rattle.har_recording.specs.Log.{Text, Headers, is_token}
use Rattle.har_recording.specs.Recorded.{dropped_names, is_kept_name, is_field_value, is_kept}

quoted_is_value : (b : ℕ) → is_quoted_token_byte b ≡ true → is_value_byte b ≡ true
quoted_is_value b is = grind (arith, nat_tests)

pub method_of : (text : Text) → is_token text ≡ true → IsMethod text
unfolding grammar.is_token_byte
method_of text is =
    let parts = and_parts (nat_le 1 (length text)) (list_all is_token_byte text) is in
    record { some = grind (arith, nat_tests, parts.0); token = parts.1 }

-- ---- one header

kept_written : (h : Text × Text) → is_kept h ≡ true → IsWritable h
kept_written h is =
    let parts = and_parts (is_kept_name h.0) (is_field_value h.1) is in
    let name = method_of h.0 (and_parts (is_token h.0) (not (list_any (same_name h.0) dropped_names)) parts.0).0 in
    record {
      some = name.some;
      name = name.token;
      value = all_pass is_quoted_token_byte is_value_byte h.1 quoted_is_value parts.1;
    }

-- it isn't named so
pub record HasOtherName (h : Text × Text) : Type 0 where
  pub length : same_name h.0 (codes "Content-Length") ≡ false
  pub coding : same_name h.0 (codes "Transfer-Encoding") ≡ false
  pub media : same_name h.0 (codes "Orb-Media") ≡ false

no_true : (b : Bool) → not b ≡ true → b ≡ false
no_true true e = absurd (cc e)
no_true false e = refl

pub other_name : (h : Text × Text) → is_kept h ≡ true → HasOtherName h
other_name h is =
    let parts = and_parts (is_kept_name h.0) (is_field_value h.1) is in
    let none = no_true (list_any (same_name h.0) dropped_names) (and_parts (is_token h.0) (not (list_any (same_name h.0) dropped_names)) parts.0).1 in
    let after_length = or_parts (same_name h.0 (codes "Content-Length")) _ none in
    let after_transfer = or_parts (same_name h.0 (codes "Transfer-Encoding")) _ after_length.1 in
    let after_content = or_parts (same_name h.0 (codes "Content-Encoding")) _ after_transfer.1 in
    let after_media = or_parts (same_name h.0 (codes "Orb-Media")) _ after_content.1 in
    record { length = after_length.0; coding = after_transfer.0; media = after_media.0 }

-- ---- all of them

-- the header, where it is kept, before those of the others that are
abbrev pub kept_before : Bool → Text × Text → Headers → Headers
kept_before t h others = cond t (h ∷ others) others

pub written_all : (headers : Headers) → AreWritable (filter is_kept headers)
written_all [] = tt
written_all (h ∷ headers) = by (is_kept h) refl (written_all headers)
  where
    by : (t : Bool) → is_kept h ≡ t → AreWritable (filter is_kept headers) → AreWritable (kept_before t h (filter is_kept headers))
    by true is others = (kept_written h is, others)
    by false is others = others

-- a value of a name that none of them has is one of the others'
pub unnamed : (name : Text) → ((h : Text × Text) → is_kept h ≡ true → same_name h.0 name ≡ false) → (headers others : Headers)
    → values_of (map as_read (filter is_kept headers ++ others)) name ≡ values_of (map as_read others) name
unnamed name other [] others = refl
unnamed name other (h ∷ headers) others = by (is_kept h) refl (unnamed name other headers others)
  where
    by : (t : Bool) → is_kept h ≡ t
        → values_of (map as_read (filter is_kept headers ++ others)) name ≡ values_of (map as_read others) name
        → values_of (map as_read (kept_before t h (filter is_kept headers) ++ others)) name ≡ values_of (map as_read others) name
    by true is rest = rw (other h is) rest
    by false is rest = rest
