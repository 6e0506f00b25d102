-- What a filter puts is what is owed.
use Rattle.std.proofs.Common.{◌≡◌, ℕ, Bool, true, false, List, [], ◌++◌, if◌then◌else◌, sym, ap, ◌∙◌, append_assoc}
use Rattle.std.proofs.lemmas.List.{append-nil}
use Rattle.response_rules.specs.declared.verdicts.Verdict.{Verdict}
use Rattle.response_rules.specs.Rules.{is_allowing}
use Rattle.response_rules.specs.Settled.{is_sent}
use Rattle.response_rules.specs.Reads.{HasRead as DeciderHasRead, IsVerdict, is_script_dead as is_dead_in}
use Rattle.response_rules.specs.Tables.{rule_of}
use Rattle.response_rules.proofs.SettledLemmas.{sent-allows}
use Rattle.response_rules.proofs.HopelessLemmas.{hopeless-unsent}
use Rattle.body_filter.specs.declared.filtering.Filter.{Filter}
use Rattle.body_filter.specs.declared.phases.Phase.{Phase}
use Rattle.body_filter.specs.declared.phases.Phase.TheVariants as phase
use Rattle.http_exchange.specs.Chunks.{body_so_far, kept_of}
use Rattle.http_exchange.specs.Framing.{put_of, kept_after, end_of}
use Rattle.http_exchange.specs.Framers.{is_chunked_by, kept_by}
use Rattle.body_filter.specs.Reply.{reply_of}
use Rattle.body_filter.specs.Responses.{Response, output_so_far, whole_output}
use Rattle.body_filter.specs.Reads.{Stands, ended_by}
use Rattle.http_exchange.proofs.FramingLaws.{prefix-on, kept-on, prefix-none, released, released-kept, held-whole, whole-is}
use Rattle.body_filter.proofs.FilterLemmas.{so_far-unsent, so_far-sent, dropped-blocks}
use Rattle.body_filter.proofs.LawLemmas.{whole-allowed, whole-blocked}

-- at the head
pub first-sent : (x : Response) → is_sent x.judged [] ≡ true → x.bytes ≡ output_so_far x []
first-sent x sent =
    sym (so_far-sent x [] sent ∙ (ap (λ t. x.bytes ++ t) (prefix-none x.chunked) ∙ append-nil x.bytes))

-- a body that was held, and goes out
pub release-is : (x : Response) (m p : List ℕ) (chunked : Bool) (rest head held : List ℕ)
    → chunked ≡ x.chunked → rest ≡ [] → head ≡ x.bytes → held ≡ m → is_sent x.judged m ≡ false
    → is_sent x.judged (m ++ p) ≡ true
    → output_so_far x m ++ (head ++ (put_of chunked rest held ++ put_of chunked (kept_after chunked rest held) p)) ≡ output_so_far x (m ++ p)
release-is x m p chunked rest head held is none same all unsent sent =
    rw (is, none, same, all, so_far-unsent x m unsent)
    (ap (λ t. x.bytes ++ t) (released x.chunked m p) ∙ sym (so_far-sent x (m ++ p) sent))

pub release-kept : (x : Response) (m p : List ℕ) (chunked : Bool) (rest held : List ℕ)
    → chunked ≡ x.chunked → rest ≡ [] → held ≡ m
    → kept_after chunked (kept_after chunked rest held) p ≡ kept_of x.chunked (m ++ p)
release-kept x m p chunked rest held is none all = rw (is, none, all) (released-kept x.chunked m p)

-- one that goes out already
pub sending-is : (x : Response) (m p : List ℕ) (chunked : Bool) (rest : List ℕ)
    → chunked ≡ x.chunked → rest ≡ kept_of x.chunked m → is_sent x.judged m ≡ true
    → is_sent x.judged (m ++ p) ≡ true → output_so_far x m ++ put_of chunked rest p ≡ output_so_far x (m ++ p)
sending-is x m p chunked rest is kept sent sent' =
    rw (is, kept, so_far-sent x m sent)
    (append_assoc x.bytes (body_so_far x.chunked m) (put_of x.chunked (kept_of x.chunked m) p)
    ∙ (ap (λ t. x.bytes ++ t) (sym (prefix-on x.chunked m p)) ∙ sym (so_far-sent x (m ++ p) sent')))

pub sending-kept : (x : Response) (m p : List ℕ) (chunked : Bool) (rest : List ℕ)
    → chunked ≡ x.chunked → rest ≡ kept_of x.chunked m → kept_after chunked rest p ≡ kept_of x.chunked (m ++ p)
sending-kept x m p chunked rest is kept = rw (is, kept) (sym (kept-on x.chunked m p))

-- the end of one that goes out
ends_sent : (x : Response) (m : List ℕ) (v : Verdict) (chunked : Bool) (rest : List ℕ)
    → chunked ≡ x.chunked → rest ≡ kept_of x.chunked m → is_sent x.judged m ≡ true
    → IsVerdict x.judged m v → output_so_far x m ++ end_of chunked rest ≡ whole_output x m
ends_sent x m v chunked rest is kept sent verdict =
    rw (is, kept, so_far-sent x m sent)
    (append_assoc x.bytes (body_so_far x.chunked m) (end_of x.chunked (kept_of x.chunked m))
    ∙ (ap (λ t. x.bytes ++ t) (sym (whole-is x.chunked m))
    ∙ sym (whole-allowed x m (sent-allows x.judged m sent))))

-- of one that was held to its end
ends_held : (x : Response) (m : List ℕ) (v : Verdict) (chunked : Bool) (rest head held : List ℕ)
    → chunked ≡ x.chunked → rest ≡ [] → head ≡ x.bytes → held ≡ m → IsVerdict x.judged m v
    → (if v.allow then head ++ (put_of chunked rest held ++ end_of chunked (kept_after chunked rest held)) else reply_of v.rule)
    ≡ whole_output x m
ends_held x m v chunked rest head held is none same all verdict =
    by v.allow (sym (ap is_allowing verdict.rule) ∙ sym verdict.allow)
  where
    by : (b : Bool) → is_allowing (rule_of x.judged m) ≡ b
        → (if b then head ++ (put_of chunked rest held ++ end_of chunked (kept_after chunked rest held)) else reply_of v.rule)
        ≡ whole_output x m
    by true allows =
        rw (is, none, same, all)
        (ap (λ t. x.bytes ++ t) (held-whole x.chunked m) ∙ sym (whole-allowed x m allows))
    by false blocks = ap reply_of verdict.rule ∙ sym (whole-blocked x m blocks)

pub ended-is : (p : Phase) (f g : Filter) (x : Response) (m : List ℕ) (v : Verdict) → Stands p f x m → DeciderHasRead f.decider x.judged m
    → IsVerdict x.judged m v → g.framer ≡ f.framer → g.head ≡ f.head → g.held ≡ f.held
    → output_so_far x m ++ ended_by p g v ≡ whole_output x m
ended-is phase.Idle f g x m v stands decides verdict framer head held = absurd stands
ended-is phase.Holding f g x m v stands decides verdict framer head held =
    rw (so_far-unsent x m stands.unsent)
    (ends_held x m v (is_chunked_by g.framer) (kept_by g.framer) g.head.items g.held.items
    (ap is_chunked_by framer ∙ stands.chunked) (ap kept_by framer ∙ stands.rest)
    (ap (λ t. t.items) head ∙ stands.head) (ap (λ t. t.items) held ∙ stands.held) verdict)
ended-is phase.Passing f g x m v stands decides verdict framer head held =
    ends_sent x m v (is_chunked_by g.framer) (kept_by g.framer)
    (ap is_chunked_by framer ∙ stands.chunked) (ap kept_by framer ∙ stands.rest)
    stands.sent verdict
ended-is phase.Dropping f g x m v stands decides verdict framer head held =
    rw (so_far-unsent x m (hopeless-unsent x.judged m (is_dead_in f.decider) stands.over))
    (ap reply_of verdict.rule ∙ sym (whole-blocked x m (dropped-blocks f.decider x.judged m decides stands.over)))
