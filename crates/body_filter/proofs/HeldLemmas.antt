-- How much is held back.
use Rattle.std.proofs.Common.{◌≡◌, ℕ, ◌<◌, ◌≤◌, ◌%◌, Bool, true, false, ◌||◌, ◌&&◌, nat_lt, List, length, if◌then◌else◌, refl, arith}
use Rattle.std.proofs.lemmas.Bool.Decides.{nat_tests}
use Rattle.response_rules.specs.Heads.{Case}
use Rattle.signatures.specs.Window.{window_size}
use Rattle.response_rules.specs.Settled.{is_sent, is_blocked, is_hopeless, is_in_text}
use Rattle.response_rules.proofs.HopelessLemmas.{hopeful-short}
use Rattle.http_exchange.specs.Chunks.{chunk_size}
use Rattle.body_filter.specs.Responses.{Response, held_of}
use Rattle.body_filter.proofs.FilterLemmas.{held-holding, held-passing, held-dropping}

-- a text that isn't hopeless is at most as long as the limit
within_by : (blocked text over dead : Bool) → (blocked || (text && (over || dead))) ≡ false → text ≡ true → over ≡ false
within_by true text over dead is t = absurd (grind (arith, is))
within_by false true true dead is t = absurd (grind (arith, is))
within_by false true false dead is t = refl
within_by false false over dead is t = absurd (grind (arith, t))

text_fits : (h : Case) (m : List ℕ) (dead : Bool) → is_hopeless h m dead ≡ false → is_in_text h m ≡ true → length m ≤ h.limit
unfolding is_hopeless
text_fits h m dead is text =
    grind (arith, nat_tests, within_by (is_blocked h m) (is_in_text h m) (nat_lt h.limit (length m)) dead is text)

open_short : (h : Case) (m : List ℕ) (dead : Bool) → is_sent h m ≡ false → is_hopeless h m dead ≡ false → is_in_text h m ≡ false → length m ≤ 1024
unfolding window_size
open_short h m dead unsent hopeful untext =
    let short : length m < 1024 = hopeful-short h m dead unsent hopeful untext in
    omega arith

-- what is kept whole fits
pub held-fits : (h : Case) (m : List ℕ) (dead : Bool) → 1024 ≤ h.limit → is_sent h m ≡ false → is_hopeless h m dead ≡ false → length m ≤ h.limit
held-fits h m dead low unsent hopeful = by (is_in_text h m) refl
  where
    by : (t : Bool) → is_in_text h m ≡ t → length m ≤ h.limit
    by true text = text_fits h m dead hopeful text
    by false untext = omega (arith, open_short h m dead unsent hopeful untext)

kept_short : (chunked : Bool) (n : ℕ) → (if chunked then n % chunk_size else 0) ≤ 1024
unfolding chunk_size
kept_short true n = omega arith
kept_short false n = omega arith

-- a bound of what is held, from one of a body that is kept whole
bound_by : (x : Response) (m : List ℕ) (dead : Bool) (most : ℕ) → 1024 ≤ most
    → (is_sent x.judged m ≡ false → is_hopeless x.judged m dead ≡ false → length m ≤ most) → held_of x m dead ≤ most
bound_by x m dead most low holds = by (is_sent x.judged m) (is_hopeless x.judged m dead) refl refl
  where
    by : (s g : Bool) → is_sent x.judged m ≡ s → is_hopeless x.judged m dead ≡ g → held_of x m dead ≤ most
    by true g sent over =
        rw (held-passing x m dead sent) (let short = kept_short x.chunked (length m) in omega arith)
    by false true unsent over = rw (held-dropping x m dead over) (omega arith)
    by false false unsent hopeful = rw (held-holding x m dead unsent hopeful) (holds unsent hopeful)

pub held-window : (x : Response) (m : List ℕ) (dead : Bool) → is_in_text x.judged m ≡ false → held_of x m dead ≤ 1024
held-window x m dead untext =
    bound_by x m dead 1024 (omega arith) (λ unsent hopeful. open_short x.judged m dead unsent hopeful untext)

pub held-limit : (x : Response) (m : List ℕ) (dead : Bool) → 1024 ≤ x.judged.limit → held_of x m dead ≤ x.judged.limit
held-limit x m dead low = bound_by x m dead x.judged.limit low (held-fits x.judged m dead low)
