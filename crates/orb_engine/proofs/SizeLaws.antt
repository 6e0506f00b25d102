-- How much the job `Filter` writes of a recording.
use Rattle.std.proofs.Common.{◌≡◌, ℕ, ◌+◌, ◌*◌, ◌≤◌, Bool, true, false, ◌&&◌, List, [], ◌∷◌, ◌++◌, length, length-append, if◌then◌else◌, ap, arith}
use Rattle.std.specs.FinMap as map
use Rattle.media_state.specs.Table.{States}
use Rattle.orb_engine.specs.declared.settings.Job.TheVariants.{Filter}
use Rattle.orb_engine.specs.declared.settings.Settings.{Settings}
use Rattle.exchanges.specs.Heads.{Heads, is_to_end}
use Rattle.orb_engine.specs.Judged.{response_of}
use Rattle.orb_engine.specs.Recording as cut
use Rattle.orb_engine.specs.Recording.{Exchange, Tail, Recording, IsRecording, AreExchanges, IsTail, table_after, table_after_all, exchanges_text, tail_text}
use Rattle.orb_engine.specs.Outputs.{written_so_far, written_whole, written_exchanges, written_tail, output_of}
use Rattle.orb_engine.proofs.StepLemmas.{prefix-short}
use Rattle.orb_engine.proofs.WorkLemmas.{so_far-most, whole-most}

-- of each exchange its head, twice its body and 128 bytes at most; the bytes that follow count on both sides
exchanges-short : (s : Settings) (table : States) (before : ℕ) (exchanges : List Exchange) (rest : List ℕ)
    → s.job ≡ Filter → AreExchanges s table exchanges
    → length (written_exchanges s table before exchanges) + 2 * length rest
    ≤ 2 * length (exchanges_text exchanges rest) + 128 * length exchanges
exchanges-short s table before [] rest filters are = omega arith
exchanges-short s table before (i ∷ exchanges) rest filters (first, others) =
    let after = exchanges_text exchanges rest in
    let x = response_of s table i.heads in
    let body = prefix-short i.heads.response.frame i.sent i.body first.prefix in
    let spelled = length-append i.heads.request.bytes (i.heads.response.bytes ++ (i.sent ++ after)) in
    let spelled' = length-append i.heads.response.bytes (i.sent ++ after) in
    let spelled'' = length-append i.sent after in
    let one = whole-most s.job (before + 1) x i.body filters in
    let more = exchanges-short s (table_after table i) (before + 1) exchanges rest filters others in
    let both = length-append (written_whole s.job (before + 1) x i.body) (written_exchanges s (table_after table i) (before + 1) exchanges) in
    omega (arith, one, more, both, body, spelled, spelled', spelled'')

body-short : (s : Settings) (table : States) (number : ℕ) (h : Heads) (body : List ℕ) (whole : Bool) → s.job ≡ Filter
    → length (if whole then written_whole s.job number (response_of s table h) body else written_so_far s.job (response_of s table h) body)
    ≤ length h.response.bytes + 2 * length body + 128
body-short s table number h body true filters = whole-most s.job number (response_of s table h) body filters
body-short s table number h body false filters = so_far-most s.job (response_of s table h) body

tail-short : (s : Settings) (table : States) (before : ℕ) (ended : Bool) (t : Tail) (more : List ℕ) → s.job ≡ Filter → IsTail table t
    → length (written_tail s table before ended t) ≤ 2 * length (tail_text t more) + 128
tail-short s table before ended (cut.InBody h sent body) more filters is =
    let short = prefix-short h.response.frame sent body is.prefix in
    let spelled = length-append h.request.bytes (h.response.bytes ++ (sent ++ more)) in
    let spelled' = length-append h.response.bytes (sent ++ more) in
    let spelled'' = length-append sent more in
    let most = body-short s table (before + 1) h body (ended && is_to_end h.response.frame) filters in
    omega (arith, most, short, spelled, spelled', spelled'')
tail-short s table before ended (cut.BadBody h sent body b) more filters is =
    let short = prefix-short h.response.frame sent body is.sending.prefix in
    let spelled = length-append h.request.bytes (h.response.bytes ++ (sent ++ (b ∷ more))) in
    let spelled' = length-append h.response.bytes (sent ++ (b ∷ more)) in
    let spelled'' = length-append sent (b ∷ more) in
    let most = so_far-most s.job (response_of s table h) body in
    omega (arith, most, short, spelled, spelled', spelled'')
tail-short s table before ended t more filters is = omega arith

pub output-short : (s : Settings) (m : List ℕ) (r : Recording) (ended : Bool) → s.job ≡ Filter → IsRecording s m r
    → length (output_of s r ended) ≤ 2 * length m + 128 * (length r.exchanges + 1)
unfolding output_of
output-short s m r ended filters is =
    let table = table_after_all map.empty r.exchanges in
    let first = exchanges-short s map.empty 0 r.exchanges (tail_text r.tail r.more) filters is.exchanges in
    let last = tail-short s table (length r.exchanges) ended r.tail r.more filters is.tail in
    omega (arith, first, last, ap length is.spells, length-append (written_exchanges s map.empty 0 r.exchanges) (written_tail s table (length r.exchanges) ended r.tail))
