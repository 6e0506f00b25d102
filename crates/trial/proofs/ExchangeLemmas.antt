-- Each exchange of the self-test is one of a recording, after any exchanges whose ids are below 16.
use Rattle.std.proofs.Common.{◌≡◌, ℕ, zero, suc, ◌+◌, ◌*◌, ◌<◌, ◌≤◌, false, List, [], ◌∷◌, ◌++◌, length, Option, Some, None, refl, sym, ap, ◌∙◌, subst, arith, append_assoc, length-append, codes}
use Rattle.std.specs.List.{repeat}
use Rattle.orb_bytes.specs.Ascii.{nul}
use Rattle.media_state.specs.Table.{States, IsRefusedId}
use Rattle.response_rules.specs.Tables.{rule_of}
use Rattle.http_exchange.specs.HeadTexts.{head_limit}
use Rattle.http_exchange.specs.Frames.{IsBodyPrefix, IsWhole}
use Rattle.http_exchange.specs.declared.request.RequestHead.{RequestHead}
use Rattle.http_exchange.specs.declared.frames.BodyFrame.{BodyFrame}
use Rattle.http_exchange.specs.declared.frames.BodyFrame.TheVariants.{Length, Chunked}
use Rattle.orb_engine.specs.declared.settings.Settings.{Settings}
use Rattle.exchanges.specs.Heads as heads
use Rattle.exchanges.specs.Heads.{RequestText, ResponseText, Heads, IsRequestHead, AreHeads}
use Rattle.orb_engine.specs.Judged.{judged_by}
use Rattle.orb_engine.specs.Recording.{Exchange, IsExchange, exchange_text, table_after, state_after}
use Rattle.trial.specs.declared.kinds.Kind.{Kind}
use Rattle.trial.specs.declared.kinds.Kind.TheVariants.{Javascript, Nosniff, Png, Script, Json, Text, Jpeg, Media}
use Rattle.http_exchange.specs.Messages.{head_text}
use Rattle.trial.specs.Trials.{request_line, request_of, status_line, fields_of, body_of, sent_of, kind_text}
use Rattle.trial.proofs.Requests.{plain_asks, media_asks, plain_is_request, media_is_request}
use Rattle.trial.proofs.ResponseKinds as responses
use Rattle.trial.proofs.ResponseKinds.{ok, partial}
use Rattle.http_exchange.proofs.HeadTreeLemmas.{StatusLine, line_text}
use Rattle.trial.proofs.Responses.{Says, text_of, IsResponseHead-text}
use Rattle.trial.proofs.ChunkLemmas.{sent_is_whole, sent_is_prefix, sent_length}
use Rattle.trial.proofs.TableLemmas.{IsSmall, small_has_room, keeps_is_small}

-- ---- the parts of each kind

abbrev asks_of : Kind → (id : ℕ) → RequestHead
asks_of Media id = media_asks id
asks_of _ id = plain_asks

abbrev line_for : Kind → StatusLine
line_for Media = partial
line_for _ = ok

abbrev essence_of : Kind → Option (List ℕ × List ℕ)
essence_of Javascript = Some (codes "text", codes "javascript")
essence_of Nosniff = Some (codes "text", codes "html")
essence_of Png = None
essence_of Script = Some (codes "application", codes "octet-stream")
essence_of Json = Some (codes "application", codes "octet-stream")
essence_of Text = Some (codes "text", codes "plain")
essence_of Jpeg = Some (codes "image", codes "jpeg")
essence_of Media = Some (codes "video", codes "ogg")

abbrev frame_for : Kind → (n : ℕ) → BodyFrame
frame_for Jpeg n = Chunked
frame_for _ n = Length n

abbrev request_for : Kind → (id : ℕ) → RequestText
request_for kind id = record { bytes = head_text request_line (request_of kind id); asks = asks_of kind id }

abbrev response_for : Kind → (n : ℕ) → ResponseText
response_for kind n = text_of (line_for kind) (fields_of kind n) (essence_of kind) (frame_for kind n)

abbrev heads_for : Kind → (m id : ℕ) → Heads
heads_for kind m id = record { request = request_for kind id; response = response_for kind (length (body_of kind m)) }

-- the exchange, where a recording has these media states
abbrev pub exchange_for : Settings → States → Kind → (m id : ℕ) → Exchange
exchange_for s table kind m id = record {
  heads = heads_for kind m id;
  sent = sent_of kind (body_of kind m);
  body = body_of kind m;
  rule = rule_of (judged_by s table (heads_for kind m id)) (body_of kind m);
}

-- ---- lengths

length-repeat : (count : ℕ) (unit : List ℕ) → length (repeat count unit) ≡ count * length unit
length-repeat zero unit = omega arith
length-repeat (suc count) unit =
    length-append unit (repeat count unit) ∙ ap (λ n. length unit + n) (length-repeat count unit) ∙ omega arith

pub body_length : (kind : Kind) (m : ℕ) → m < 1009 → length (body_of kind m) ≤ 8072
unfolding body_of
body_length Javascript m small = omega (arith, length-repeat (m + 1) (codes "x;"))
body_length Nosniff m small = omega (arith, length-repeat (m + 1) (codes "a"))
body_length Png m small = omega (arith, length-repeat m (nul ∷ []))
body_length Script m small = omega (arith, length-repeat (m + 1) (codes "var a=0;"))
body_length Json m small = omega (arith, length-append (repeat m (codes ",0")) (codes "]"), length-repeat m (codes ",0"))
body_length Text m small = omega (arith, length-repeat (m + 1) (codes "a b "))
body_length Jpeg m small = omega (arith, length-repeat m (nul ∷ []))
body_length Media m small = omega (arith, length-repeat m (nul ∷ []))

pub body_some : (kind : Kind) (m : ℕ) → 1 ≤ length (body_of kind m)
unfolding body_of
body_some Javascript m = omega (arith, length-repeat (m + 1) (codes "x;"))
body_some Nosniff m = omega (arith, length-repeat (m + 1) (codes "a"))
body_some Png m = omega arith
body_some Script m = omega (arith, length-repeat (m + 1) (codes "var a=0;"))
body_some Json m = omega arith
body_some Text m = omega (arith, length-repeat (m + 1) (codes "a b "))
body_some Jpeg m = omega arith
body_some Media m = omega arith

pub jpeg_length : (m : ℕ) → m < 1009 → length (body_of Jpeg m) ≤ 2048
unfolding body_of
jpeg_length m small = omega (arith, length-repeat m (nul ∷ []))

sent_fits : (kind : Kind) (m : ℕ) → m < 1009 → length (sent_of kind (body_of kind m)) ≤ 20000
sent_fits Jpeg m small = sent_length (body_of Jpeg m) (omega (arith, jpeg_length m small))
sent_fits kind m small = omega (arith, body_length kind m small)

-- ---- heads

is_request : (kind : Kind) (id : ℕ) → id < 16 → IsRequestHead (request_for kind id)
is_request Media id small = media_is_request id small
is_request _ id small = plain_is_request

has_room : (kind : Kind) (id : ℕ) (table : States) → IsSmall table → IsRefusedId table (heads.id_of (asks_of kind id)) → ⊥
has_room Media id table small full = small_has_room table id small full
has_room _ id table small full = full

says : (kind : Kind) (n : ℕ) → n < 10000 → Says (line_for kind) (fields_of kind n) (essence_of kind) (frame_for kind n)
says Javascript n small = responses.javascript_says n small
says Nosniff n small = responses.nosniff_says n small
says Png n small = responses.png_says n small
says Script n small = responses.script_says n small
says Json n small = responses.json_says n small
says Text n small = responses.text_says n small
says Jpeg n small = responses.jpeg_says n small
says Media n small = responses.media_says n small

no_head : (kind : Kind) (id : ℕ) → (asks_of kind id).is_head ≡ false
no_head Media id = refl
no_head _ id = refl

are_heads : (kind : Kind) (m id : ℕ) (table : States) → m < 1009 → id < 16 → IsSmall table → AreHeads table (heads_for kind m id)
are_heads kind m id table short low small =
    let n = length (body_of kind m) in
    let says_so = says kind n (omega (arith, body_length kind m short)) in record {
      request = record { head = is_request kind id low; room = has_room kind id table small };
      response = subst (λ to_head. heads.IsResponseHead to_head (response_for kind n)) (sym (no_head kind id))
          (IsResponseHead-text (line_for kind) (fields_of kind n) (essence_of kind) (frame_for kind n) says_so);
    }

-- ---- bodies

is_prefix : (kind : Kind) (body : List ℕ) → IsBodyPrefix (frame_for kind (length body)) (sent_of kind body) body
is_prefix Jpeg body = sent_is_prefix body
is_prefix _ body = (omega arith, refl)

is_whole : (kind : Kind) (body : List ℕ) → IsWhole (frame_for kind (length body)) (sent_of kind body)
is_whole Jpeg body = sent_is_whole body
is_whole _ body = refl

-- ---- the exchange

pub is_exchange : (s : Settings) (table : States) (kind : Kind) (m id : ℕ) → m < 1009 → id < 16 → IsSmall table
    → IsExchange s table (exchange_for s table kind m id)
is_exchange s table kind m id short low small = record {
  heads = are_heads kind m id table short low small;
  prefix = is_prefix kind (body_of kind m);
  whole = is_whole kind (body_of kind m);
  decided = refl;
}

same_line : (kind : Kind) → status_line kind ≡ line_text (line_for kind)
same_line Media = refl
same_line _ = refl

pub spells : (s : Settings) (table : States) (kind : Kind) (m id : ℕ) (rest : List ℕ)
    → kind_text kind m id ++ rest ≡ exchange_text (exchange_for s table kind m id) rest
unfolding kind_text
spells s table kind m id rest =
    let request = head_text request_line (request_of kind id) in
    let fields = fields_of kind (length (body_of kind m)) in
    let sent = sent_of kind (body_of kind m) in
    append_assoc request (head_text (status_line kind) fields ++ sent) rest
    ∙ ap (λ l. request ++ l) (append_assoc (head_text (status_line kind) fields) sent rest)
    ∙ ap (λ line. request ++ (head_text line fields ++ (sent ++ rest))) (same_line kind)

pub table_stays_small : (s : Settings) (table : States) (kind : Kind) (m id : ℕ) → id < 16 → IsSmall table
    → IsSmall (table_after table (exchange_for s table kind m id))
table_stays_small s table Media m id low small =
    keeps_is_small table id (state_after table (exchange_for s table Media m id)) low small
table_stays_small s table _ m id low small = small

pub response_fits : (kind : Kind) (n : ℕ) → n < 10000 → length (head_text (status_line kind) (fields_of kind n)) ≤ 384
response_fits kind n small =
    subst (λ line. length (head_text line (fields_of kind n)) ≤ 384) (sym (same_line kind)) (says kind n small).fits

pub text_fits : (kind : Kind) (m id : ℕ) → m < 1009 → id < 16 → length (kind_text kind m id) ≤ 200000
unfolding kind_text head_limit
text_fits kind m id short low =
    let request = head_text request_line (request_of kind id) in
    let n = length (body_of kind m) in
    let response = head_text (status_line kind) (fields_of kind n) in
    let sent = sent_of kind (body_of kind m) in
    let fits = response_fits kind n (omega (arith, body_length kind m short)) in
    omega (
      arith,
      length-append request (response ++ sent),
      length-append response sent,
      (is_request kind id low).text.fits,
      fits,
      sent_fits kind m short,
    )
