-- What a log stands for is whole exchanges, entry by entry.
use Rattle.std.proofs.Common.{◌≡◌, ℕ, ◌+◌, Bool, true, false, cond, [], ◌∷◌, ◌++◌, Option, Some, None, Result, Ok, Err, refl, sym, ap₂, subst}
use Rattle.std.specs.Option.{option_and_then}
use Rattle.std.specs.Prelude.{codes}
use Rattle.std.proofs.lemmas.List.Elements.{All-nil, All-cons}
use Rattle.serde_json.specs.Data.{Data, Items, no_items, item}
use Rattle.serde_json.specs.Find.{get}
use Rattle.har_recording.specs.Log.{Text, Headers, Request, Response, Entry, of_both, is_token, if_token, string_at, request_of, entry_of, entries_of, json_of, without_mark}
use Rattle.har_recording.specs.Recorded.{exchange_text, is_final, recorded, followed, recording_from, recording_of, of_json, har_of}
use Rattle.har_recording.specs.Whole.{IsSent, AreSent}
use Rattle.har_recording.proofs.SentLemmas.{sent_of, sent_text-entry, IsSent-entry}

-- ---- what is read of an entry

record Both {X Y Z : Type 0} (make : X → Y → Z) (a : Option X) (b : Option Y) (z : Z) : Type 0 where
  first : X
  second : Y
  first_is : a ≡ Some first
  second_is : b ≡ Some second
  made : make first second ≡ z

both_of : {X Y Z : Type 0} (make : X → Y → Z) (a : Option X) (b : Option Y) (z : Z) → of_both make a b ≡ Some z → Both make a b z
both_of make None b z e = absurd (cc e)
both_of make (Some x) None z e = absurd (cc e)
both_of make (Some x) (Some y) z e = record { first = x; second = y; first_is = refl; second_is = refl; made = cc }

then_of : {X Y : Type 0} (f : X → Option Y) (a : Option X) (y : Y) → option_and_then f a ≡ Some y → (x : X) × (f x ≡ Some y)
then_of f None y e = absurd (cc e)
then_of f (Some x) y e = (x, e)

token_of : (text method : Text) → if_token text ≡ Some method → is_token method ≡ true
token_of text method e = by (is_token text) refl e
  where
    by : (t : Bool) → is_token text ≡ t → cond t (Some text) None ≡ Some method → is_token method ≡ true
    by true token e = subst (λ (m : Text). is_token m ≡ true) (let same : text ≡ method = cc in same) token
    by false token e = absurd (cc e)

request_token : (d : Data) (r : Request) → request_of d ≡ Some r → is_token r.method ≡ true
request_token d r e =
    let parts = both_of (λ (method : Text) (headers : Headers). record { method = method; headers = headers }) _ _ r e in
    let text = then_of if_token (string_at (codes "method") d) parts.first parts.first_is in
    subst (λ (x : Request). is_token x.method ≡ true) parts.made (token_of text.0 parts.first text.1)

entry_token : (d : Data) (e : Entry) → entry_of d ≡ Some e → is_token e.request.method ≡ true
entry_token d e is =
    let parts = both_of (λ (request : Request) (response : Response). record { request = request; response = response }) _ _ e is in
    let said = then_of request_of (get (codes "request") d) parts.first parts.first_is in
    subst (λ (x : Entry). is_token x.request.method ≡ true) parts.made (request_token said.0 parts.first said.1)

-- ---- entries

-- an entry, before what is recorded of others
entry_sent : (e : Entry) (rest : Text) → is_token e.request.method ≡ true → AreSent rest → AreSent (recorded e ++ rest)
entry_sent e rest token others = by (is_final e) refl
  where
    by : (t : Bool) → is_final e ≡ t → AreSent (cond t (exchange_text e) [] ++ rest)
    by true final = record {
      exchanges = sent_of e ∷ others.exchanges;
      are = ap₂ (λ (a b : Text). a ++ b) (sym (sent_text-entry e)) others.are;
      each = All-cons IsSent (sent_of e) others.exchanges (IsSent-entry e token final) others.each;
    }
    by false final = others

next_sent : (d : Data) (number : ℕ) (entry : Option Entry) (left : Result Text ℕ) (recording : Text) → entry_of d ≡ entry
    → ((rest : Text) → left ≡ Ok rest → AreSent rest) → followed number entry left ≡ Ok recording → AreSent recording
next_sent d number None left recording is others e = absurd (cc e)
next_sent d number (Some x) (Err later) recording is others e = absurd (cc e)
next_sent d number (Some x) (Ok rest) recording is others e =
    let same : recorded x ++ rest ≡ recording = cc in
    subst AreSent same (entry_sent x rest (entry_token d x is) (others rest refl))

entries_sent : (number : ℕ) (entries : Items) (recording : Text) → recording_from number entries ≡ Ok recording → AreSent recording
entries_sent number no_items recording e =
    let none : [] ≡ recording = cc in
    subst AreSent none (record { exchanges = []; are = refl; each = All-nil IsSent })
entries_sent number (item d ds) recording e =
    next_sent d number (entry_of d) (recording_from (number + 1) ds) recording refl (entries_sent (number + 1) ds) e

log_sent : (entries : Option Items) (recording : Text) → recording_of entries ≡ Ok recording → AreSent recording
log_sent None recording e = absurd (cc e)
log_sent (Some entries) recording e = entries_sent 1 entries recording e

json_sent : (json : Option Data) (recording : Text) → of_json json ≡ Ok recording → AreSent recording
json_sent None recording e = absurd (cc e)
json_sent (Some d) recording e = log_sent (entries_of d) recording e

pub all_sent : (text recording : Text) → har_of text ≡ Ok recording → AreSent recording
all_sent text recording e = json_sent (json_of (without_mark text)) recording e
