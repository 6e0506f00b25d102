-- A response that is relayed.
use Rattle.std.proofs.Common.{◌≡◌, ℕ, zero, suc, ◌+◌, ◌<◌, ◌≤◌, ◌^◌, Bool, true, false, List, [], ◌∷◌, ◌++◌, length, take, drop, get_or, refl, sym, ap, subst, ◌∙◌, inl, inr, arith, append_assoc, length-append, add-one, Err}
use Rattle.std.proofs.lemmas.List.{append-nil, take-append-drop, take_more, take_all, take-append-le}
use Rattle.std.proofs.Math.Seq.{drop-cons}
use Rattle.orb_io.specs.Told.{IsPrefix}
use Rattle.orb_io.proofs.ToldLemmas.{IsPrefix-trans}
use Rattle.http_exchange.specs.Frames.{IsBodyPrefix, IsWhole}
use Rattle.http_exchange.specs.HeadTexts.{IsHeadText, IsOpenHead, IsLongHead}
use Rattle.http_exchange.specs.Reading.{ReadsResponseHead}
use Rattle.http_exchange.specs.Reads.{Gets, Refuses, is_ended, HasRead as UnframerHasRead}
use Rattle.http_exchange.specs.Fields.{pairs_of}
use Rattle.httparse.specs.Grammar.{status_code}
use Rattle.http_exchange.specs.declared.refusals.BadKind.{BadKind}
use Rattle.http_exchange.specs.declared.refusals.BadKind.TheVariants.{BadChunk}
use Rattle.http_exchange.specs.declared.frames.BodyFrame.{BodyFrame}
use Rattle.http_exchange.specs.declared.unframing.Unframer.{Unframer}
use Rattle.http_exchange.proofs.UnframerLemmas.{prefix_read, starts, whole-or-not}
use Rattle.response_rules.specs.declared.facts.Facts.{Facts}
use Rattle.response_rules.specs.declared.rules.Rule.{Rule}
use Rattle.response_rules.specs.declared.verdicts.Verdict.{Verdict}
use Rattle.response_rules.specs.Heads.{length_of}
use Rattle.response_rules.specs.Rules.{state_after_rule}
use Rattle.response_rules.specs.Reads.{IsVerdict}
use Rattle.body_filter.specs.Reads.{HasRead as FilterHasRead}
use Rattle.body_filter.specs.Responses as filter
use Rattle.body_filter.specs.Responses.{output_so_far, whole_output}
use Rattle.body_filter.specs.declared.filtering.Filter.{Filter}
use Rattle.body_filter.proofs.LawLemmas.{prefix-whole_now}
use Rattle.exchanges.specs.Heads.{ResponseText, IsResponseHead, is_chunked, is_to_end}
use Rattle.exchanges.specs.HeadReads.{ReadsWell}
use Rattle.exchanges.specs.declared.room.Context.{Context}
use Rattle.live_proxy.specs.Hearing.{BeginsWith}
use Rattle.live_proxy.specs.Responses as response
use Rattle.live_proxy.specs.Responses.{IsResponse, judged_in, response_in}
use Rattle.live_proxy.specs.Answers.{run_limit, Shows, Fails, EndsAt, Leaves, Stops}
use Rattle.live_proxy.specs.Relaying.{Receives, HasPassed, IsFilled}
use Rattle.live_proxy.specs.declared.relaying.Arriving.{Arriving}
use Rattle.live_proxy.specs.declared.outcomes.ProxyOutcome.TheVariants as outcome

-- these bytes of a response were seen when the client failed
pub failed : (c : Context) (r : ResponseText) (u : Unframer) (bytes sent body rest given : List ℕ)
    → bytes ≡ r.bytes ++ (sent ++ rest) → IsResponseHead c.asks.is_head r
    → IsBodyPrefix r.frame sent body → UnframerHasRead u r.frame sent body
    → IsPrefix given (output_so_far (response_in c r) body) → Fails c bytes false given
failed c r u bytes sent body rest given spells good prefix reads within =
    elim (whole-or-not u r.frame sent body reads.stands) [ inl whole ↦ ended whole | inr unfinished ↦ goes unfinished ]
  where
    all : bytes ≡ (r.bytes ++ (sent ++ [])) ++ rest
    all =
        spells ∙ sym (append_assoc r.bytes sent rest)
        ∙ ap (λ t. (r.bytes ++ t) ++ rest) (sym (append-nil sent))

    ended : IsWhole r.frame sent → Fails c bytes false given
    ended whole = record {
      seen = r.bytes ++ (sent ++ []);
      unseen = rest;
      all = all;
      all_seen = λ never. absurd (cc never);
      coming = response.Whole r sent body;
      more = [];
      is = record { spells = refl; is = record { head = good; prefix = prefix; whole = whole }; last = λ _. refl };
      within = IsPrefix-trans given _ _ within (prefix-whole_now (response_in c r) body);
    }

    goes : (IsWhole r.frame sent → ⊥) → Fails c bytes false given
    goes unfinished = record {
      seen = r.bytes ++ (sent ++ []);
      unseen = rest;
      all = all;
      all_seen = λ never. absurd (cc never);
      coming = response.InBody r sent body;
      more = [];
      is = record { spells = refl; is = record { head = good; prefix = prefix; unfinished = unfinished }; last = λ _. refl };
      within = within;
    }

-- the response whose head was read
abbrev pub text_read : (c : Context) (head : List ℕ) (facts : Facts) (f : BodyFrame) → ReadsWell c head facts f → ResponseText
text_read c head facts f reads = record {
  bytes = head;
  status = status_code reads.tree;
  fields = pairs_of reads.tree.fields;
  essence = reads.essence;
  frame = f;
}

good-read : (c : Context) (head : List ℕ) (facts : Facts) (f : BodyFrame) (reads : ReadsWell c head facts f) → IsHeadText head
    → IsResponseHead c.asks.is_head (text_read c head facts f reads)
good-read c head facts f reads text = record {
  text = text;
  tree = reads.tree;
  reads = reads.is;
  status = refl;
  fields = refl;
  frame = reads.framed;
  essence = reads.states;
}

pub same-response : (c : Context) (head : List ℕ) (facts : Facts) (f : BodyFrame) (reads : ReadsWell c head facts f) (text : List ℕ) (chunked : Bool)
    → text ≡ head → chunked ≡ is_chunked f
    → filter.response_of (judged_in c (text_read c head facts f reads)) text chunked
    ≡ response_in c (text_read c head facts f reads)
same-response c head facts f reads text chunked text_is chunked_is = rw (text_is, chunked_is) refl

-- a body whose head was read begins
pub begun : (c : Context) (head : List ℕ) (facts : Facts) (a : Arriving) (f : BodyFrame) (reads : ReadsWell c head facts f) (x : filter.Response) (filt : Filter) (rest given : List ℕ)
    → IsHeadText head → x ≡ response_in c (text_read c head facts f reads)
    → UnframerHasRead a.unframer f [] [] → a.to_end ≡ is_to_end f
    → given ≡ output_so_far x [] → FilterHasRead filt x []
    → Receives c a filt (head ++ rest) rest given
begun c head facts a f reads x filt rest given text is unframer to_end gave reads_on = record {
  text = text_read c head facts f reads;
  sent = [];
  body = [];
  spells = refl;
  good = good-read c head facts f reads text;
  prefix = prefix_read a.unframer f [] [] unframer.stands;
  unframer = unframer;
  to_end = to_end;
  filter = subst (λ (y : filter.Response). FilterHasRead filt y []) is reads_on;
  gave = gave ∙ ap (λ (y : filter.Response). output_so_far y []) is;
}

pub begun-fails : (c : Context) (head : List ℕ) (facts : Facts) (f : BodyFrame) (reads : ReadsWell c head facts f) (x : filter.Response) (rest given : List ℕ)
    → IsHeadText head → x ≡ response_in c (text_read c head facts f reads) → IsPrefix given (output_so_far x [])
    → Fails c (head ++ rest) false given
begun-fails c head facts f reads x rest given text is within =
    let (u, stands) = starts f in
    failed c (text_read c head facts f reads) u (head ++ rest) [] [] rest given refl (good-read c head facts f reads text)
    (prefix_read u f [] [] stands) (record { stands = stands })
    (subst (λ (y : filter.Response). IsPrefix given (output_so_far y [])) is within)

-- a head that is refused
pub refused : (c : Context) (head rest : List ℕ) (kind : BadKind) → IsHeadText head
    → ReadsResponseHead head c.asks.is_head (Err kind)
    → Shows c (head ++ rest) false (EndsAt (response.Bad kind)) []
refused c head rest kind text reads = record {
  coming = response.BadHead head kind;
  more = rest;
  is = record { spells = refl; is = (text, reads); last = λ never. absurd (cc never) };
  holds = refl;
  gave = refl;
}

-- bytes that were read of those that were left
spelled-on : (r sent rest : List ℕ) (used : ℕ) → r ++ (sent ++ rest) ≡ r ++ ((sent ++ take used rest) ++ drop used rest)
spelled-on r sent rest used =
    ap (λ t. r ++ t) (ap (λ t. sent ++ t) (sym (take-append-drop used rest)) ∙ sym (append_assoc sent (take used rest) (drop used rest)))

-- a run of content was unframed and filtered
pub got : (c : Context) (a a' : Arriving) (f f' : Filter) (bytes rest after given given' content : List ℕ) (used : ℕ)
    (h : Receives c a f bytes rest given) → Gets a'.unframer h.text.frame h.sent h.body rest content used → a'.to_end ≡ a.to_end
    → FilterHasRead f' (response_in c h.text) (h.body ++ content)
    → given' ≡ output_so_far (response_in c h.text) (h.body ++ content) → after ≡ drop used rest
    → Receives c a' f' bytes after given'
got c a a' f f' bytes rest after given given' content used h gets same filters gave is = record {
  text = h.text;
  sent = h.sent ++ take used rest;
  body = h.body ++ content;
  spells = rw is (h.spells ∙ spelled-on h.text.bytes h.sent rest used);
  good = h.good;
  prefix = gets.prefix;
  unframer = gets.reads;
  to_end = same ∙ h.to_end;
  filter = filters;
  gave = gave;
}

-- the client failed at it
pub got-fails : (c : Context) (a : Arriving) (u : Unframer) (f : Filter) (bytes rest given given' content : List ℕ) (used : ℕ)
    (h : Receives c a f bytes rest given) → Gets u h.text.frame h.sent h.body rest content used
    → IsPrefix given' (output_so_far (response_in c h.text) (h.body ++ content))
    → Fails c bytes false given'
got-fails c a u f bytes rest given given' content used h gets within =
    failed c h.text u bytes (h.sent ++ take used rest) (h.body ++ content) (drop used rest) given'
    (h.spells ∙ spelled-on h.text.bytes h.sent rest used) h.good gets.prefix gets.reads within

-- a run isn't empty, before the end of the body
pub some-used : (c : Context) (a : Arriving) (u : Unframer) (f : Filter) (bytes rest given content : List ℕ) (used : ℕ)
    (h : Receives c a f bytes rest given) → Gets u h.text.frame h.sent h.body rest content used
    → 1 ≤ length rest → (IsWhole h.text.frame h.sent → ⊥) → 1 ≤ used
some-used c a u f bytes rest given content zero h gets some unfinished = absurd (unfinished (gets.moves refl some))
some-used c a u f bytes rest given content (suc used) h gets some unfinished = omega arith

split-at : (piece : List ℕ) (at : ℕ) → at < length piece
    → (take at piece ++ (get_or piece at 0 ∷ drop (at + 1) piece) ≡ piece)
    × (take (at + 1) piece ≡ take at piece ++ (get_or piece at 0 ∷ []))
split-at piece at within =
    let more : drop at piece ≡ get_or piece at 0 ∷ drop (at + 1) piece =
    rw add-one (drop-cons piece at 0 within) in
    (ap (λ t. take at piece ++ t) (sym more) ∙ take-append-drop at piece, take_more piece at 0 within)

-- a byte of a chunked body is refused
pub bad : (c : Context) (a : Arriving) (u : Unframer) (f : Filter) (bytes rest given : List ℕ) (at : ℕ)
    (h : Receives c a f bytes rest given) → Refuses u h.text.frame h.sent h.body rest at
    → Shows c bytes false (EndsAt (response.Bad BadChunk)) given
bad c a u f bytes rest given at h refuses =
    let b = get_or rest at 0 in
    let (whole, next) = split-at rest at refuses.bad.within in
    let sent = h.sent ++ take at rest in
    record {
      coming = response.BadBody h.text sent h.body b;
      more = drop (at + 1) rest;
      is = record {
        spells = h.spells ∙ ap (λ t. h.text.bytes ++ t)
            (ap (λ t. h.sent ++ t) (sym whole) ∙ sym (append_assoc h.sent (take at rest) (b ∷ drop (at + 1) rest)));
        is = record {
          sending = record { head = h.good; prefix = refuses.bad.before; unfinished = refuses.bad.unfinished };
          chunked = refuses.chunked;
          bad = λ g prefix. refuses.bad.bad g (subst (λ (x : List ℕ). IsBodyPrefix h.text.frame x g)
              (append_assoc h.sent (take at rest) (b ∷ []) ∙ ap (λ x. h.sent ++ x) (sym next)) prefix);
        };
        last = λ never. absurd (cc never);
      };
      holds = refl;
      gave = h.gave;
    }

-- the body of a response that isn't whole, of which all that came was read
pub still-open : (c : Context) (a : Arriving) (f : Filter) (bytes rest given : List ℕ) (h : Receives c a f bytes rest given)
    → rest ≡ [] → (IsWhole h.text.frame h.sent → ⊥)
    → IsResponse c.asks.is_head bytes (response.InBody h.text h.sent h.body) []
still-open c a f bytes rest given h none unfinished = record {
  spells = h.spells ∙ ap (λ t. h.text.bytes ++ (h.sent ++ t)) none;
  is = record { head = h.good; prefix = h.prefix; unfinished = unfinished };
  last = λ _. refl;
}

-- upstream goes on
pub goes-on : (c : Context) (a : Arriving) (f : Filter) (bytes given : List ℕ) (p : HasPassed c a f bytes given)
    → is_ended a.unframer ≡ false → (IsWhole p.receives.text.frame p.receives.sent → ⊥)
    → Shows c bytes false (EndsAt response.Open) given
goes-on c a f bytes given p pending unfinished = record {
  coming = response.InBody p.receives.text p.receives.sent p.receives.body;
  more = [];
  is = still-open c a f bytes p.rest given p.receives (p.none pending) unfinished;
  holds = refl;
  gave = p.receives.gave;
}

-- it ended inside the body
pub cut : (c : Context) (a : Arriving) (f : Filter) (bytes given : List ℕ) (p : HasPassed c a f bytes given)
    → is_ended a.unframer ≡ false → (IsWhole p.receives.text.frame p.receives.sent → ⊥) → a.to_end ≡ false
    → Shows c bytes true (EndsAt response.Cut) given
cut c a f bytes given p pending unfinished bounded =
    let inside : is_to_end p.receives.text.frame ≡ false = sym p.receives.to_end ∙ bounded in
    record {
      coming = response.InBody p.receives.text p.receives.sent p.receives.body;
      more = [];
      is = still-open c a f bytes p.rest given p.receives (p.none pending) unfinished;
      holds = rw inside refl;
      gave = rw inside p.receives.gave;
    }

-- it ended, and so did the body
pub filled-to_end : (c : Context) (a : Arriving) (f : Filter) (bytes given : List ℕ) (p : HasPassed c a f bytes given)
    → is_ended a.unframer ≡ false → (IsWhole p.receives.text.frame p.receives.sent → ⊥) → a.to_end ≡ true
    → IsFilled c f bytes true given
filled-to_end c a f bytes given p pending unfinished to_end =
    let runs : is_to_end p.receives.text.frame ≡ true = sym p.receives.to_end ∙ to_end in
    record {
      text = p.receives.text;
      body = p.receives.body;
      coming = response.InBody p.receives.text p.receives.sent p.receives.body;
      more = [];
      is = still-open c a f bytes p.rest given p.receives (p.none pending) unfinished;
      done = rw runs refl;
      all = rw runs refl;
      left = refl;
      filter = p.receives.filter;
      gave = p.receives.gave;
    }

-- the body ended by its own bytes
pub filled : (c : Context) (a : Arriving) (f : Filter) (bytes given : List ℕ) (p : HasPassed c a f bytes given)
    → IsWhole p.receives.text.frame p.receives.sent → IsFilled c f bytes false given
filled c a f bytes given p whole = record {
  text = p.receives.text;
  body = p.receives.body;
  coming = response.Whole p.receives.text p.receives.sent p.receives.body;
  more = p.rest;
  is = record {
    spells = p.receives.spells;
    is = record { head = p.receives.good; prefix = p.receives.prefix; whole = whole };
    last = λ never. absurd (cc never);
  };
  done = refl;
  all = refl;
  left = refl;
  filter = p.receives.filter;
  gave = p.receives.gave;
}

-- the client got all of a whole response, or the reply in its place
pub ended-well : (c : Context) (f : Filter) (bytes : List ℕ) (ended : Bool) (given given' : List ℕ) (h : IsFilled c f bytes ended given) (v : Verdict)
    → given' ≡ whole_output (response_in c h.text) h.body → IsVerdict (judged_in c h.text) h.body v
    → Shows c bytes ended (Leaves v.state) given'
ended-well c f bytes ended given given' h v gave verdict = record {
  coming = h.coming;
  more = h.more;
  is = h.is;
  holds = (
    h.done,
    verdict.state ∙ ap (λ (r : Rule). state_after_rule c.state r (length_of (judged_in c h.text))) verdict.rule ∙ sym h.left,
  );
  gave = gave ∙ sym h.all;
}

pub ended-fails : (c : Context) (f : Filter) (bytes : List ℕ) (ended : Bool) (given given' : List ℕ) (h : IsFilled c f bytes ended given)
    → IsPrefix given' (whole_output (response_in c h.text) h.body) → Fails c bytes ended given'
ended-fails c f bytes ended given given' h within = record {
  seen = bytes;
  unseen = [];
  all = sym (append-nil bytes);
  all_seen = λ _. refl;
  coming = h.coming;
  more = h.more;
  is = h.is;
  within = rw h.all within;
}

-- no head has come
pub no-head : (c : Context) (bytes : List ℕ) → IsOpenHead bytes → Shows c bytes false (EndsAt response.Open) []
no-head c bytes begun_ = record {
  coming = response.InHead bytes;
  more = [];
  is = record { spells = sym (append-nil bytes); is = begun_; last = λ _. refl };
  holds = refl;
  gave = refl;
}

pub cut-head : (c : Context) (bytes : List ℕ) → IsOpenHead bytes → Shows c bytes true (EndsAt response.Cut) []
cut-head c bytes begun_ = record {
  coming = response.InHead bytes;
  more = [];
  is = record { spells = sym (append-nil bytes); is = begun_; last = λ _. refl };
  holds = refl;
  gave = refl;
}

pub long-head : (c : Context) (bytes : List ℕ) → BeginsWith IsLongHead bytes → Shows c bytes false (EndsAt response.HeadLimit) []
long-head c bytes (head, rest, spells, long) = record {
  coming = response.LongHead head;
  more = rest;
  is = record { spells = spells; is = long; last = λ never. absurd (cc never) };
  holds = refl;
  gave = refl;
}

-- a piece more of a body that isn't whole
pub fed : (c : Context) (a : Arriving) (f : Filter) (bytes piece given : List ℕ) (p : HasPassed c a f bytes given)
    → is_ended a.unframer ≡ false → Receives c a f (bytes ++ piece) piece given
fed c a f bytes piece given p pending =
    let r = p.receives in
    record {
      text = r.text;
      sent = r.sent;
      body = r.body;
      spells = ap (λ t. t ++ piece) (r.spells ∙ ap (λ t. r.text.bytes ++ (r.sent ++ t)) (p.none pending))
          ∙ append_assoc r.text.bytes (r.sent ++ []) piece
          ∙ ap (λ t. r.text.bytes ++ (t ++ piece)) (append-nil r.sent);
      good = r.good;
      prefix = r.prefix;
      unframer = r.unframer;
      to_end = r.to_end;
      filter = r.filter;
      gave = r.gave;
    }

first-part : (bytes piece : List ℕ) → length bytes ≡ 2 ^ 62 → take (2 ^ 62) (bytes ++ piece) ≡ bytes
first-part bytes piece full = take-append-le (2 ^ 62) bytes piece (omega (arith, full)) ∙ take_all (2 ^ 62) bytes (omega (arith, full))

-- it goes on past the last byte that is taken
pub endless : (c : Context) (a : Arriving) (f : Filter) (bytes piece given : List ℕ) (p : HasPassed c a f bytes given)
    → is_ended a.unframer ≡ false → (IsWhole p.receives.text.frame p.receives.sent → ⊥) → length bytes ≡ 2 ^ 62 → 1 ≤ length piece
    → Stops outcome.Endless c (bytes ++ piece) false given
unfolding run_limit
endless c a f bytes piece given p pending unfinished full some = (
  refl,
  omega (arith, length-append bytes piece, full, some),
  subst (λ (t : List ℕ). Shows c t false (EndsAt response.Open) given) (sym (first-part bytes piece full))
      (goes-on c a f bytes given p pending unfinished),
)
