-- What the heads of a recorded exchange say, however they are read.
use Rattle.std.proofs.Common.{◌≡◌, ℕ, ◌<◌, ◌≤◌, ◌^◌, Bool, true, false, cond, nat_le, nat_lt, List, [], ◌∷◌, length, map, Option, Some, None, option_map, Result, Ok, Err, inl, inr, refl, sym, ap, subst, ◌∙◌, arith, append-nil}
use Rattle.std.specs.Prelude.{filter, codes, decimal, bytes_eq}
use Rattle.std.specs.List.{list_all}
use Rattle.std.specs.Char.{is_ascii_digit}
use Rattle.std.proofs.lemmas.Bool.{and_parts, cases_Bool}
use Rattle.std.proofs.lemmas.Bool.Decides.{nat_tests}
use Rattle.std.proofs.lemmas.Fmt.{decimal_is_IsNumeral}
use Rattle.std.proofs.lemmas.List.Folds.{list_all-append}
use Rattle.httparse.specs.Grammar as grammar
use Rattle.httparse.specs.Grammar.{status_code}
use Rattle.orb_bytes.specs.Ascii.{space}
use Rattle.orb_bytes.specs.Bytes.{is_http_whitespace}
use Rattle.orb_bytes.specs.Trim.{trimmed}
use Rattle.header_values.specs.Joined.{joined, joined_texts}
use Rattle.http_exchange.specs.Fields.{pairs_of}
use Rattle.http_exchange.specs.Frames.{IsWhole}
use Rattle.http_exchange.specs.Reading.{ReadsRequestHead}
use Rattle.http_exchange.specs.RequestFields.{value_of, has_body, id_of, with_id, request_of}
use Rattle.http_exchange.specs.ResponseFields.{is_interim, has_no_body, framed, sized, frame_of}
use Rattle.http_exchange.specs.declared.frames.BodyFrame.{BodyFrame}
use Rattle.http_exchange.specs.declared.frames.BodyFrame.TheVariants as frame
use Rattle.http_exchange.specs.declared.refusals.BadKind.{BadKind}
use Rattle.http_exchange.specs.declared.refusals.BadKind.TheVariants.{RequestBody, Interim, BadFraming}
use Rattle.http_exchange.specs.declared.request.RequestHead.{RequestHead}
use Rattle.http_exchange.proofs.DecimalLemmas.{decimal_of-decimal, decimal_of-greater, decimal-digits, decimal-value, trim_ows-decimal, parts_of-decimal, three_digits}
use Rattle.http_exchange.proofs.HeadTextLemmas.{IsWritable, AreWritable, as_read, trees_of, pairs-trees, is_no_end, token_no_end, all_pass, written_both, head_ends}
use Rattle.http_exchange.proofs.HeadTreeLemmas.{request_line, request_tree, request_tree-only, StatusLine, line_text, IsStatusLine, response_tree, response_tree-only}
use Rattle.har_recording.specs.Log.{Text, Headers, Response, Entry, is_token}
use Rattle.har_recording.specs.Recorded.{is_kept, is_final, length_field, exchange_text, request_text, response_fields, response_head, sent_body}
use Rattle.har_recording.specs.Whole.{Sent, sent_text, IsSent, HasWholeBody}
use Rattle.har_recording.proofs.KeptLemmas.{method_of, other_name, written_all, unnamed}

-- ---- requests

abbrev id_in : Result RequestHead BadKind → Option ℕ
id_in (Ok asks) = asks.media_id
id_in (Err kind) = None

abbrev head_in : Result RequestHead BadKind → Bool
head_in (Ok asks) = asks.is_head
head_in (Err kind) = false

-- a request without the field has no id
asked : (is_head : Bool) (fields : Headers) (asks : RequestHead) → value_of fields (codes "Orb-Media") ≡ None
    → Ok asks ≡ request_of is_head fields → (asks.media_id ≡ None) × (asks.is_head ≡ is_head)
unfolding request_of
asked is_head fields asks none e = by (has_body fields) (e ∙ ap (λ v. cond (has_body fields) (Err RequestBody) (with_id is_head fields (id_of v))) none)
  where
    by : (t : Bool) → ◌≡◌ {A = Result RequestHead BadKind} (Ok asks) (cond t (Err RequestBody) (with_id is_head fields (Ok None)))
        → (asks.media_id ≡ None) × (asks.is_head ≡ is_head)
    by true e = absurd (cc e)
    by false e = (ap id_in e, ap head_in e)

no_media : (headers : Headers) → value_of (pairs_of (trees_of (filter is_kept headers))) (codes "Orb-Media") ≡ None
no_media headers =
    let fields = filter is_kept headers in
    ap (λ (pairs : Headers). value_of pairs (codes "Orb-Media")) (pairs-trees fields ∙ ap (map as_read) (sym (append-nil fields)))
    ∙ ap (λ (texts : List Text). option_map (trimmed is_http_whitespace) (joined_texts texts))
    (unnamed (codes "Orb-Media") (λ h is. (other_name h is).media) headers [])

-- ---- responses

status_line_of : ℕ → StatusLine
status_line_of status = record { digits = decimal status; phrase = codes "OK" }

digit_no_end : (b : ℕ) → is_ascii_digit b ≡ true → is_no_end b ≡ true
digit_no_end b is = grind (arith, nat_tests)

is_status_line : (status : ℕ) → 200 ≤ status → status ≤ 599 → IsStatusLine (status_line_of status)
unfolding status_line_of
is_status_line status least most =
    let digits = (decimal-digits status).digits in
    record {
      three = three_digits status (omega arith) (omega arith);
      digits = digits;
      phrase = refl;
      whole =
          rw (list_all-append is_no_end (decimal status) (space ∷ codes "OK"), all_pass is_ascii_digit is_no_end (decimal status) digit_no_end digits)
          refl;
    }

written_length : (body : Text) → IsWritable (length_field body)
unfolding grammar.is_token_byte
written_length body = record {
  some = omega arith;
  name = refl;
  value = decimal-value (length body);
}

written_fields : (r : Response) → AreWritable (response_fields r)
written_fields r = written_both (filter is_kept r.headers) (length_field r.body ∷ []) (written_all r.headers) (written_length r.body, tt)

-- what the fields say of the frame
no_coding : (r : Response) → value_of (pairs_of (trees_of (response_fields r))) (codes "Transfer-Encoding") ≡ None
no_coding r =
    ap (λ (pairs : Headers). value_of pairs (codes "Transfer-Encoding")) (pairs-trees (response_fields r))
    ∙ ap (λ (texts : List Text). option_map (trimmed is_http_whitespace) (joined_texts texts))
    (unnamed (codes "Transfer-Encoding") (λ h is. (other_name h is).coding) r.headers (length_field r.body ∷ []))

one_length : (r : Response) → joined (pairs_of (trees_of (response_fields r))) (codes "Content-Length") ≡ Some (decimal (length r.body))
one_length r =
    ap (λ (pairs : Headers). joined pairs (codes "Content-Length")) (pairs-trees (response_fields r))
    ∙ ap joined_texts (unnamed (codes "Content-Length") (λ h is. (other_name h is).length) r.headers (length_field r.body ∷ []))
    ∙ ap Some (trim_ows-decimal (length r.body))

-- a length that is read is the number that it writes
whole_length : (body : Text) (f : BodyFrame) → sized (Some (decimal (length body))) ≡ Ok f → IsWhole f body
whole_length body f e =
    elim (cases_Bool (nat_lt (length body) (10 ^ 19))) [
      | inl small ↦
          let few : length body < 10 ^ 19 = grind (arith, nat_tests, small) in
          let read : sized (Some (decimal (length body))) ≡ Ok (frame.Length (length body)) =
          rw (parts_of-decimal (length body), decimal_of-decimal (length body) few) refl in
          subst (λ g. IsWhole g body) (same (frame.Length (length body)) f (sym read ∙ e)) refl
      | inr large ↦
          let many : 10 ^ 19 ≤ length body = grind (arith, nat_tests, large) in
          let bad : sized (Some (decimal (length body))) ≡ Err BadFraming =
          rw (parts_of-decimal (length body), decimal_of-greater (length body) many) refl in
          absurd (no_frame f (sym bad ∙ e))
    ]
  where
    same : (a b : BodyFrame) → ◌≡◌ {A = Result BodyFrame BadKind} (Ok a) (Ok b) → a ≡ b
    same a b e = cc

    no_frame : (a : BodyFrame) → ◌≡◌ {A = Result BodyFrame BadKind} (Err BadFraming) (Ok a) → ⊥
    no_frame a e = cc

whole_by : (interim none : Bool) (body : Text) (f : BodyFrame)
    → cond interim (Err Interim) (cond none (Ok frame.Empty) (sized (Some (decimal (length body))))) ≡ Ok f
    → IsWhole f (cond none [] body)
whole_by true none body f e = absurd (cc e)
whole_by false true body f e = subst (λ g. IsWhole g []) (let same : frame.Empty ≡ f = cc in same) refl
whole_by false false body f e = whole_length body f e

whole_body : (to_head : Bool) (r : Response) (f : BodyFrame)
    → frame_of to_head r.status (pairs_of (trees_of (response_fields r))) ≡ Ok f
    → IsWhole f (cond (has_no_body to_head r.status) [] r.body)
unfolding frame_of
whole_body to_head r f e =
    let pairs = pairs_of (trees_of (response_fields r)) in
    let given : framed (value_of pairs (codes "Transfer-Encoding")) (joined pairs (codes "Content-Length"))
    ≡ sized (Some (decimal (length r.body))) =
    ap (λ coding. framed coding (joined pairs (codes "Content-Length"))) (no_coding r) ∙ ap sized (one_length r) in
    whole_by (is_interim r.status) (has_no_body to_head r.status) r.body f
    (ap (λ g. cond (is_interim r.status) (Err Interim) (cond (has_no_body to_head r.status) (Ok frame.Empty) g)) (sym given) ∙ e)

-- ---- an exchange

pub sent_of : Entry → Sent
sent_of e = record {
  request = request_text e.request;
  response = response_head e.response;
  body = sent_body e.request.method e.response;
}

pub sent_text-entry : (e : Entry) → sent_text (sent_of e) ≡ exchange_text e
unfolding sent_of
sent_text-entry e = refl

final_status : (e : Entry) → is_final e ≡ true → (200 ≤ e.response.status) × (e.response.status ≤ 599)
final_status e is =
    let parts = and_parts (nat_le 200 e.response.status) (nat_le e.response.status 599) is in
    (grind (arith, nat_tests, parts.0), grind (arith, nat_tests, parts.1))

-- what it asks, however its head is read
asked_of : (e : Entry) → is_token e.request.method ≡ true → (asks : RequestHead) → ReadsRequestHead (request_text e.request) (Ok asks)
    → (asks.media_id ≡ None) × (asks.is_head ≡ bytes_eq e.request.method (codes "HEAD"))
asked_of e token asks (inl reads) = absurd (cc reads.1)
asked_of e token asks (inr (h, is, reads)) =
    let method = e.request.method in
    let fields = filter is_kept e.request.headers in
    let tree : h ≡ request_tree method fields =
    request_tree-only method fields h (method_of method token) (written_all e.request.headers) is in
    asked (bytes_eq method (codes "HEAD")) (pairs_of (trees_of fields)) asks (no_media e.request.headers)
    (reads ∙ ap (λ t. request_of (bytes_eq t.method (codes "HEAD")) (pairs_of t.fields)) tree)

-- and what frame its response has
body_of : (e : Entry) → is_final e ≡ true → (asks : RequestHead) → asks.is_head ≡ bytes_eq e.request.method (codes "HEAD")
    → HasWholeBody (sent_of e) asks
unfolding sent_of status_line_of
body_of e final asks heads h f is framing =
    let r = e.response in
    let bounds = final_status e final in
    let tree : h ≡ response_tree (status_line_of r.status) (response_fields r) =
    response_tree-only (status_line_of r.status) (response_fields r) h (is_status_line r.status bounds.0 bounds.1) (written_fields r) is in
    let status : status_code h ≡ r.status = ap status_code tree ∙ (decimal_is_IsNumeral r.status (omega (arith, bounds.1))).1 in
    let read : frame_of (bytes_eq e.request.method (codes "HEAD")) r.status (pairs_of (trees_of (response_fields r))) ≡ Ok f =
    ap (λ t. frame_of t r.status (pairs_of (trees_of (response_fields r)))) (sym heads)
    ∙ ap (λ n. frame_of asks.is_head n (pairs_of (trees_of (response_fields r)))) (sym status)
    ∙ ap (λ t. frame_of asks.is_head (status_code h) (pairs_of t.fields)) (sym tree)
    ∙ framing in
    whole_body (bytes_eq e.request.method (codes "HEAD")) r f read

method_no_end : (method : Text) → is_token method ≡ true → list_all is_no_end (request_line method) ≡ true
method_no_end method token =
    rw (
      list_all-append is_no_end method (codes " / HTTP/1.1"),
      all_pass grammar.is_token_byte is_no_end method token_no_end (method_of method token).token,
    ) refl

pub IsSent-entry : (e : Entry) → is_token e.request.method ≡ true → is_final e ≡ true → IsSent (sent_of e)
unfolding sent_of status_line_of
IsSent-entry e token final =
    let bounds = final_status e final in record {
      request =
          head_ends (request_line e.request.method) (filter is_kept e.request.headers) (method_no_end e.request.method token)
          (written_all e.request.headers);
      response =
          head_ends (line_text (status_line_of e.response.status)) (response_fields e.response)
          (is_status_line e.response.status bounds.0 bounds.1).whole (written_fields e.response);
      no_id = λ asks reads. (asked_of e token asks reads).0;
      body = λ asks reads. body_of e final asks (asked_of e token asks reads).1;
    }
