-- A head is read in one way, and ends in no bytes that hold no empty line.
use Rattle.std.proofs.Common.{◌≡◌, ℕ, ◌<◌, ◌≤◌, Bool, nat_le, List, ◌++◌, length, take, drop, bytes_eq, codes, Some, None, Result, Ok, Err, inl, inr, sym, ap, ◌∙◌, arith}
use Rattle.std.proofs.lemmas.Bool.{cases_Bool}
use Rattle.std.proofs.lemmas.Bool.Decides.{nat_tests}
use Rattle.std.proofs.lemmas.List.{take-append-le, take-append-drop}
use Rattle.std.proofs.lemmas.Option.{none-some}
use Rattle.httparse.specs.Grammar.{status_code}
use Rattle.httparse.proofs.GrammarLemmas.{request_unique, response_unique}
use Rattle.header_values.specs.Fields.{pairs_in}
use Rattle.http_exchange.specs.Fields.{pairs_of}
use Rattle.http_exchange.specs.Head.{head_length}
use Rattle.http_exchange.specs.Reading.{ReadsRequestHead, ReadsResponseHead}
use Rattle.http_exchange.specs.RequestFields.{request_of}
use Rattle.http_exchange.specs.ResponseFields.{frame_of}
use Rattle.http_exchange.specs.declared.refusals.BadKind.{BadKind}
use Rattle.http_exchange.specs.declared.request.RequestHead.{RequestHead}
use Rattle.http_exchange.specs.declared.response.ResponseHead.{ResponseHead}
use Rattle.http_exchange.proofs.EndLemmas.{head_length-stays, head_length-alone}

-- a head doesn't end in bytes that hold no empty line
pub ends_after : (prefix rest : List ℕ) (n : ℕ) → head_length prefix ≡ None → head_length (prefix ++ rest) ≡ Some n → length prefix < n
ends_after prefix rest n open_ ends =
    elim (cases_Bool (nat_le n (length prefix))) [
      | inl within ↦
          let less : n ≤ length prefix = grind (arith, nat_tests, within) in
          let alone : head_length (take n prefix) ≡ Some n =
          ap head_length (sym (take-append-le n prefix rest less)) ∙ head_length-alone (prefix ++ rest) n ends in
          let here : head_length prefix ≡ Some n =
          ap head_length (sym (take-append-drop n prefix)) ∙ head_length-stays (take n prefix) (drop n prefix) n alone in
          absurd (none-some n (sym open_ ∙ here))
      | inr after ↦ grind (arith, nat_tests, after)
    ]

-- ---- requests

pub request_once : (head : List ℕ) (a b : Result RequestHead BadKind) → ReadsRequestHead head a → ReadsRequestHead head b → a ≡ b
request_once head a b (inl x) (inl y) = x.1 ∙ sym y.1
request_once head a b (inl x) (inr y) = absurd (x.0 y.0 y.1)
request_once head a b (inr x) (inl y) = absurd (y.0 x.0 x.1)
request_once head a b (inr x) (inr y) =
    x.2
    ∙ ap (λ h. request_of (bytes_eq h.method (codes "HEAD")) (pairs_of h.fields)) (request_unique head x.0 y.0 _ _ x.1.0 y.1.0).0
    ∙ sym y.2

-- ---- responses

pub same_Err : {T : Type 0} (k l : BadKind) → ◌≡◌ {A = Result T BadKind} (Err k) (Err l) → k ≡ l
same_Err k l e = cc

pub bad_response_once : (head : List ℕ) (to_head : Bool) (k l : BadKind) → ReadsResponseHead head to_head (Err k)
    → ReadsResponseHead head to_head (Err l) → k ≡ l
bad_response_once head to_head k l (inl x) (inl y) = same_Err k l (x.1 ∙ sym y.1)
bad_response_once head to_head k l (inl x) (inr y) = absurd (x.0 y.0 y.1)
bad_response_once head to_head k l (inr x) (inl y) = absurd (y.0 x.0 x.1)
bad_response_once head to_head k l (inr x) (inr y) =
    same_Err k l
    (sym x.2 ∙ ap (λ h. frame_of to_head (status_code h) (pairs_of h.fields)) (response_unique head x.0 y.0 _ _ x.1.0 y.1.0).0 ∙ y.2)

pub no_Ok : {T : Type 0} (r : T) (k : BadKind) → ◌≡◌ {A = Result T BadKind} (Ok r) (Err k) → ⊥
no_Ok r k e = cc

-- what was read isn't refused
pub response_or_refusal : (head : List ℕ) (to_head : Bool) (r : ResponseHead) (k : BadKind) → ReadsResponseHead head to_head (Ok r)
    → ReadsResponseHead head to_head (Err k) → ⊥
response_or_refusal head to_head r k (inl x) y = absurd (cc x.1)
response_or_refusal head to_head r k (inr x) (inl y) = y.0 x.0 x.1
response_or_refusal head to_head r k (inr x) (inr y) =
    no_Ok r.frame k
    (sym x.2.frame ∙ ap (λ h. frame_of to_head (status_code h) (pairs_of h.fields)) (response_unique head x.0 y.0 _ _ x.1.0 y.1.0).0 ∙ y.2)

-- and has one list of fields
pub fields_once : (head : List ℕ) (to_head : Bool) (r q : ResponseHead) → ReadsResponseHead head to_head (Ok r)
    → ReadsResponseHead head to_head (Ok q) → pairs_in r.fields ≡ pairs_in q.fields
fields_once head to_head r q (inl x) y = absurd (cc x.1)
fields_once head to_head r q (inr x) (inl y) = absurd (cc y.1)
fields_once head to_head r q (inr x) (inr y) =
    x.2.fields_are
    ∙ ap (λ h. pairs_of h.fields) (response_unique head x.0 y.0 _ _ x.1.0 y.1.0).0
    ∙ sym y.2.fields_are
