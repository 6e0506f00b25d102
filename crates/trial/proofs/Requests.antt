-- The heads of the requests: trees of the grammar, and what they ask for.
use Rattle.std.proofs.Common.{◌≡◌, ℕ, ◌<◌, ◌≤◌, ◌^◌, true, false, List, length, Some, None, Ok, refl, sym, ap, ◌∙◌, arith, inr, codes, decimal}
use Rattle.std.proofs.lemmas.Fmt.{length-decimal-le}
use Rattle.httparse.specs.Grammar.{is_token_byte, trim_ows}
use Rattle.http_exchange.specs.HeadTexts.{head_limit}
use Rattle.http_exchange.specs.RequestFields as asks
use Rattle.http_exchange.specs.RequestFields.{value_of, has_body, is_opaque, is_for_media}
use Rattle.http_exchange.specs.declared.request.RequestHead.{RequestHead}
use Rattle.exchanges.specs.Heads.{IsRequestHead}
use Rattle.http_exchange.specs.Messages.{head_text}
use Rattle.trial.specs.Trials.{request_line, plain_request, media_request}
use Rattle.http_exchange.proofs.DecimalLemmas.{trimmed-decimal, decimal_of-decimal, decimal-value, trim_ows-decimal}
use Rattle.http_exchange.proofs.HeadTextLemmas.{head_ends}
use Rattle.http_exchange.proofs.HeadTreeLemmas.{IsMethod, request_tree, IsRequest-tree}
use Rattle.trial.proofs.HeadLemmas.{IsPlain, ArePlain, written, read_plain, length-last}

get_is_method : IsMethod (codes "GET")
unfolding is_token_byte
get_is_method = record { some = omega arith; token = refl }

-- a head that asks for this
pub IsRequestHead-text : (fields : List (List ℕ × List ℕ)) (asked : RequestHead) → ArePlain fields → length fields ≤ 128
    → length (head_text request_line fields) ≤ 65536 → asks.request_of false fields ≡ Ok asked
    → IsRequestHead (record { bytes = head_text request_line fields; asks = asked })
unfolding head_limit
IsRequestHead-text fields asked plain few fits says = record {
  text = record { ends = head_ends request_line fields refl (written fields plain); fits = fits };
  reads = inr (
    request_tree (codes "GET") fields,
    IsRequest-tree (codes "GET") fields get_is_method (written fields plain) few,
    sym says ∙ ap (asks.request_of false) (sym (read_plain fields plain)),
  );
}

-- ---- those of the self-test

abbrev pub plain_asks : RequestHead
plain_asks = record { opaque = true; media = false; is_head = false; media_id = None }

abbrev pub media_asks : (id : ℕ) → RequestHead
media_asks id = record { opaque = true; media = true; is_head = false; media_id = Some id }

plain-mode : IsPlain (codes "Sec-Fetch-Mode", codes "no-cors")
unfolding is_token_byte trim_ows
plain-mode = record { some = omega arith; name = refl; value = refl; bare = refl }

plain-destination : IsPlain (codes "Sec-Fetch-Dest", codes "video")
unfolding is_token_byte trim_ows
plain-destination = record { some = omega arith; name = refl; value = refl; bare = refl }

plain-id : (id : ℕ) → IsPlain (codes "Orb-Media", decimal id)
unfolding is_token_byte
plain-id id = record {
  some = omega arith;
  name = refl;
  value = decimal-value id;
  bare = trim_ows-decimal id;
}

pub plain_says : asks.request_of false plain_request ≡ Ok plain_asks
unfolding asks.request_of has_body is_opaque is_for_media
plain_says = refl

pub media_says : (id : ℕ) → id < 10 ^ 19 → asks.request_of false (media_request id) ≡ Ok (media_asks id)
unfolding asks.request_of has_body is_opaque is_for_media
media_says id small =
    let found : value_of (media_request id) (codes "Orb-Media") ≡ Some (decimal id) = ap Some (trimmed-decimal id) in
    let read : asks.id_of (Some (decimal id)) ≡ Ok (Some id) = rw (decimal_of-decimal id small) refl in
    ap (λ v. asks.with_id false (media_request id) (asks.id_of v)) found ∙ ap (asks.with_id false (media_request id)) read

pub plain_is_request : IsRequestHead (record { bytes = head_text request_line plain_request; asks = plain_asks })
plain_is_request =
    IsRequestHead-text plain_request plain_asks (plain-mode, tt) (omega arith) (omega arith) plain_says

pub media_is_request : (id : ℕ) → id < 16
    → IsRequestHead (record { bytes = head_text request_line (media_request id); asks = media_asks id })
media_is_request id small =
    IsRequestHead-text (media_request id) (media_asks id)
    (plain-mode, (plain-destination, (plain-id id, tt)))
    (omega arith)
    (omega (arith, length-decimal-le 2 id, length-last (decimal id)))
    (media_says id (omega arith))
