-- Where a recording of whole exchanges without media ids ends: after one of them, or at a head that is refused.
use Rattle.std.proofs.Common.{◌≡◌, ℕ, Bool, true, false, cond, List, [], ◌∷◌, ◌++◌, length, None, Ok, refl, sym, ap, subst, ◌∙◌, arith, append_assoc, length-append, Option, Some}
use Rattle.std.specs.Prelude.{All}
use Rattle.std.specs.List.{flat_map}
use Rattle.std.specs.FinMap as map
use Rattle.std.proofs.lemmas.List.{append_cancel_left}
use Rattle.std.proofs.lemmas.List.Elements.{All-head, All-tail}
use Rattle.media_state.specs.Table.{States, IsRefusedId}
use Rattle.http_exchange.specs.Fields.{pairs_of}
use Rattle.http_exchange.specs.Frames.{IsWhole}
use Rattle.http_exchange.specs.Head.{head_length}
use Rattle.http_exchange.specs.Heads.{IsResponse}
use Rattle.http_exchange.specs.Reading.{ReadsRequestHead}
use Rattle.http_exchange.specs.ResponseFields.{frame_of}
use Rattle.http_exchange.specs.declared.request.RequestHead.{RequestHead}
use Rattle.http_exchange.proofs.EndLemmas.{head_length-bounds}
use Rattle.http_exchange.proofs.HeadTextLemmas.{one_head, head_not_open}
use Rattle.http_exchange.proofs.UnframerLemmas.{whole_prefix}
use Rattle.exchanges.specs.Heads.{Heads, AreHeads, id_of}
use Rattle.orb_engine.specs.declared.settings.Settings.{Settings}
use Rattle.orb_engine.specs.Recording as cut
use Rattle.orb_engine.specs.Recording.{Exchange, Tail, Recording, IsRecording, AreExchanges, IsTail, is_open, heads_text, exchanges_text, tail_text, table_after, table_after_all}
use Rattle.orb_engine.specs.Ends.{End, Open, Done, Bad, Cut, HeadLimit, MediaFull, stop_at, stop_of}
use Rattle.exchanges.proofs.BodyLaws.{same_whole}
use Rattle.orb_engine.proofs.TailLaws.{whole_not_sending, whole_not_bad, alone}
use Rattle.har_recording.specs.Whole.{Sent, IsSent, AreSent, sent_text}

-- the ends that are left
abbrev pub IsLogEnd : End → Type 0
IsLogEnd Done = Unit {0}
IsLogEnd (Bad kind offset) = Unit {0}
IsLogEnd (HeadLimit offset) = Unit {0}
IsLogEnd Open = ⊥
IsLogEnd (Cut offset) = ⊥
IsLogEnd (MediaFull offset) = ⊥

-- ---- heads

no_head : (head rest : List ℕ) → head_length head ≡ Some (length head) → [] ≡ head ++ rest → ⊥
no_head head rest ends e = omega (arith, head_length-bounds head (length head) ends, ap length e, length-append head rest)

cut_sent : (x : Sent) (rest : List ℕ) → sent_text x ++ rest ≡ x.request ++ (x.response ++ (x.body ++ rest))
cut_sent x rest =
    append_assoc x.request (x.response ++ x.body) rest ∙ ap (λ l. x.request ++ l) (append_assoc x.response x.body rest)

-- the exchange stands where these heads do
record Meets (x : Sent) (rest : List ℕ) (h : Heads) (after : List ℕ) : Type 0 where
  whole : IsWhole h.response.frame x.body
  same : x.body ++ rest ≡ after

met : (table : States) (x : Sent) (rest : List ℕ) (h : Heads) (after : List ℕ) → IsSent x → AreHeads table h
    → x.request ++ (x.response ++ (x.body ++ rest)) ≡ heads_text h after → Meets x rest h after
met table x rest h after s are e =
    let asks = h.request.asks in
    let tree = are.response.tree in
    let first = one_head x.request (x.response ++ (x.body ++ rest)) h.request.bytes (h.response.bytes ++ after) s.request are.request.head.text.ends e in
    let second = one_head x.response (x.body ++ rest) h.response.bytes after s.response are.response.text.ends first.1 in
    let reads : ReadsRequestHead x.request (Ok asks) =
    subst (λ (b : List ℕ). ReadsRequestHead b (Ok asks)) (sym first.0) are.request.head.reads in
    let response : IsResponse x.response tree = subst (λ (b : List ℕ). IsResponse b tree) (sym second.0) are.response.reads in
    record {
      whole =
          s.body asks reads tree h.response.frame response
          (ap (λ n. frame_of asks.is_head n (pairs_of tree.fields)) (sym are.response.status)
          ∙ ap (λ fields. frame_of asks.is_head h.response.status fields) (sym are.response.fields)
          ∙ are.response.frame);
      same = second.1;
    }

-- ---- tails

-- after the last exchange
after_all : (table : States) (tail : Tail) (more : List ℕ) (offset : ℕ) → IsTail table tail → [] ≡ tail_text tail more
    → IsLogEnd (stop_at offset true tail)
after_all table (cut.InRequestHead []) more offset is e = tt
after_all table (cut.InRequestHead (b ∷ head)) more offset is e = absurd (cc e)
after_all table (cut.InResponseHead r head) more offset is e = absurd (no_head r.bytes _ is.0.head.text.ends e)
after_all table (cut.InBody h sent body) more offset is e = absurd (no_head h.request.bytes _ is.heads.request.head.text.ends e)
after_all table (cut.LongRequest head) more offset is e = tt
after_all table (cut.BadRequest head kind) more offset is e = tt
after_all table (cut.FullTable r) more offset is e = absurd (no_head r.bytes more is.0.text.ends e)
after_all table (cut.LongResponse r head) more offset is e = tt
after_all table (cut.BadResponse r head kind) more offset is e = tt
after_all table (cut.BadBody h sent body b) more offset is e =
    absurd (no_head h.request.bytes _ is.sending.heads.request.head.text.ends e)

no_id : (asks : RequestHead) → asks.media_id ≡ None → id_of asks ≡ None
no_id asks none = ap (λ id. cond asks.media id None) none ∙ either asks.media
  where
    either : (t : Bool) → ◌≡◌ {A = Option ℕ} (cond t None None) None
    either true = refl
    either false = refl

-- before the end of an exchange
in_one : (table : States) (x : Sent) (rest : List ℕ) (tail : Tail) (more : List ℕ) (offset : ℕ) → IsSent x → IsTail table tail
    → (is_open tail ≡ true → more ≡ []) → x.request ++ (x.response ++ (x.body ++ rest)) ≡ tail_text tail more
    → IsLogEnd (stop_at offset true tail)
in_one table x rest (cut.InRequestHead head) more offset s is last e =
    absurd (head_not_open x.request _ head s.request is.open_ (e ∙ alone head more (last refl)))
in_one table x rest (cut.InResponseHead r head) more offset s is last e =
    let first = one_head x.request _ r.bytes (head ++ more) s.request is.0.head.text.ends e in
    absurd (head_not_open x.response (x.body ++ rest) head s.response is.1.open_ (first.1 ∙ alone head more (last refl)))
in_one table x rest (cut.InBody h sent body) more offset s is last e =
    let m = met table x rest h (sent ++ more) s is.heads e in
    absurd (whole_not_sending table h x.body rest sent body m.whole is (m.same ∙ alone sent more (last refl)))
in_one table x rest (cut.LongRequest head) more offset s is last e = tt
in_one table x rest (cut.BadRequest head kind) more offset s is last e = tt
in_one table x rest (cut.FullTable r) more offset s is last e =
    let first = one_head x.request _ r.bytes more s.request is.0.text.ends e in
    let reads : ReadsRequestHead x.request (Ok r.asks) = subst (λ (b : List ℕ). ReadsRequestHead b (Ok r.asks)) (sym first.0) is.0.reads in
    absurd (subst (IsRefusedId table) (no_id r.asks (s.no_id r.asks reads)) is.1)
in_one table x rest (cut.LongResponse r head) more offset s is last e = tt
in_one table x rest (cut.BadResponse r head kind) more offset s is last e = tt
in_one table x rest (cut.BadBody h sent body b) more offset s is last e =
    let m = met table x rest h (sent ++ (b ∷ more)) s is.sending.heads e in
    let whole = whole_prefix h.response.frame x.body m.whole in
    absurd (whole_not_bad table h x.body rest sent more whole.0 body b m.whole whole.1 is m.same)

-- ---- exchange by exchange

ends_by : (s : Settings) (table : States) (sent : List Sent) (exchanges : List Exchange) (tail : Tail) (more : List ℕ) (offset : ℕ)
    → All IsSent sent → flat_map sent_text sent ≡ exchanges_text exchanges (tail_text tail more) → AreExchanges s table exchanges
    → IsTail (table_after_all table exchanges) tail → (is_open tail ≡ true → more ≡ []) → IsLogEnd (stop_at offset true tail)
ends_by s table [] [] tail more offset each e are is last = after_all table tail more offset is e
ends_by s table [] (i ∷ exchanges) tail more offset each e are is last =
    absurd (no_head i.heads.request.bytes _ are.0.heads.request.head.text.ends e)
ends_by s table (x ∷ sent) [] tail more offset each e are is last =
    in_one table x (flat_map sent_text sent) tail more offset (All-head IsSent x sent each) is last
    (sym (cut_sent x (flat_map sent_text sent)) ∙ e)
ends_by s table (x ∷ sent) (i ∷ exchanges) tail more offset each e are is last =
    let rest = flat_map sent_text sent in
    let others = exchanges_text exchanges (tail_text tail more) in
    let frame = i.heads.response.frame in
    let m = met table x rest i.heads (i.sent ++ others) (All-head IsSent x sent each) are.0.heads (sym (cut_sent x rest) ∙ e) in
    let whole = whole_prefix frame x.body m.whole in
    let same : x.body ≡ i.sent =
    same_whole frame x.body rest i.sent others whole.0 i.body m.whole are.0.whole whole.1 are.0.prefix m.same in
    let left : rest ≡ others = append_cancel_left x.body rest others (m.same ∙ ap (λ l. l ++ others) (sym same)) in
    ends_by s (table_after table i) sent exchanges tail more offset (All-tail IsSent x sent each) left are.1 is last

pub log_ends : (s : Settings) (bytes : List ℕ) (r : Recording) → AreSent bytes → IsRecording s bytes r → IsLogEnd (stop_of r true)
unfolding stop_of
log_ends s bytes r sent is =
    ends_by s map.empty sent.exchanges r.exchanges r.tail r.more _ sent.each (sym sent.are ∙ is.spells) is.exchanges is.tail is.last
