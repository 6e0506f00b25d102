-- What is answered of recordings of the same bytes, and of longer ones.
use Rattle.std.proofs.Common.{◌≡◌, ℕ, ◌+◌, Bool, true, false, cond, List, [], ◌∷◌, ◌++◌, length, ◌↔◌, refl, sym, ap, subst, ◌∙◌, append_assoc}
use Rattle.std.specs.FinMap as finite
use Rattle.std.proofs.lemmas.Bool.{false≢true}
use Rattle.std.proofs.lemmas.List.{append-nil}
use Rattle.orb_io.specs.Told.{IsPrefix}
use Rattle.orb_io.proofs.ToldLemmas.{IsPrefix-all, IsPrefix-none, IsPrefix-trans, IsPrefix-after}
use Rattle.media_state.specs.Table.{States}
use Rattle.response_rules.specs.declared.rules.Rule.{Rule}
use Rattle.body_filter.specs.Responses.{Response}
use Rattle.orb_engine.specs.declared.settings.Settings.{Settings}
use Rattle.exchanges.specs.Heads.{is_to_end}
use Rattle.orb_engine.specs.Judged.{response_of}
use Rattle.orb_engine.specs.Recording as cut
use Rattle.orb_engine.specs.Recording.{Exchange, Tail, Recording, IsRecording, exchanges_text, tail_text, table_after_all, is_open}
use Rattle.orb_engine.specs.Ends.{Open, stop_at, stop_of}
use Rattle.orb_engine.specs.Outputs.{written_so_far, written_whole, written_exchanges, written_tail, output_of}
use Rattle.orb_engine.specs.Counts.{rules_of_exchanges, rules_of_tail, rules_of}
use Rattle.orb_engine.specs.Refusals.{IsAnsweredAs}
use Rattle.orb_engine.proofs.OutputLaws.{written_so_far-whole}
use Rattle.orb_engine.proofs.TailLaws.{IsAlike}
use Rattle.orb_engine.proofs.ExchangeLaws.{tail_text-append}
use Rattle.orb_engine.proofs.RecordingLaws.{IsCut, one_cut, exchange_text-append, Grows, grow_cut}

cut_of : (s : Settings) (m : List ℕ) (a : Recording) → IsRecording s m a → IsCut s finite.empty m a.exchanges a.tail a.more
cut_of s m a h = record { spells = h.spells; whole = h.exchanges; stands = h.tail; last = h.last }

-- ---- one recording

-- the same whole exchanges, and alike tails
pub record IsSame (s : Settings) (a b : Recording) : Type 0 where
  pub exchanges : a.exchanges ≡ b.exchanges
  pub tails : IsAlike s a.tail b.tail

same_of : (s : Settings) (m : List ℕ) (a b : Recording) → IsRecording s m a → IsRecording s m b → IsSame s a b
same_of s m a b x y =
    let one = one_cut s finite.empty m a.exchanges a.tail a.more b.exchanges b.tail b.more (cut_of s m a x) (cut_of s m b y) in
    record { exchanges = one.0; tails = one.1 }

pub one-exchanges : (s : Settings) (m : List ℕ) (a b : Recording) → IsRecording s m a → IsRecording s m b → a.exchanges ≡ b.exchanges
one-exchanges s m a b x y = (same_of s m a b x y).exchanges

pub one-stop : (s : Settings) (m : List ℕ) (a b : Recording) → IsRecording s m a → IsRecording s m b → (ended : Bool)
    → stop_of a ended ≡ stop_of b ended
unfolding stop_of
one-stop s m a b x y ended =
    let same = same_of s m a b x y in
    ap (λ exchanges. stop_at (length (exchanges_text exchanges [])) ended a.tail) same.exchanges
    ∙ same.tails.stop (length (exchanges_text b.exchanges [])) ended

pub one-output : (s : Settings) (m : List ℕ) (a b : Recording) → IsRecording s m a → IsRecording s m b → (ended : Bool)
    → output_of s a ended ≡ output_of s b ended
unfolding output_of
one-output s m a b x y ended =
    let same = same_of s m a b x y in
    ap (λ exchanges. written_exchanges s finite.empty 0 exchanges ++ written_tail s (table_after_all finite.empty exchanges) (length exchanges) ended a.tail) same.exchanges
    ∙ ap (λ l. written_exchanges s finite.empty 0 b.exchanges ++ l) (same.tails.written (table_after_all finite.empty b.exchanges) (length b.exchanges) ended)

pub one-rules : (s : Settings) (m : List ℕ) (a b : Recording) → IsRecording s m a → IsRecording s m b → (ended : Bool)
    → rules_of s a ended ≡ rules_of s b ended
unfolding rules_of
one-rules s m a b x y ended =
    let same = same_of s m a b x y in
    ap (λ exchanges. rules_of_exchanges exchanges ++ rules_of_tail s (table_after_all finite.empty exchanges) ended a.tail) same.exchanges
    ∙ ap (λ l. rules_of_exchanges b.exchanges ++ l) (same.tails.rules (table_after_all finite.empty b.exchanges) ended)

-- ---- a refusal

open_stop : (offset : ℕ) (t : Tail) → is_open t ≡ true → stop_at offset false t ≡ Open
open_stop offset (cut.InRequestHead []) h = refl
open_stop offset (cut.InRequestHead (b ∷ head)) h = refl
open_stop offset (cut.InResponseHead r head) h = refl
open_stop offset (cut.InBody g sent body) h = refl
open_stop offset _ h = absurd (false≢true h)

stop_open : (offset : ℕ) (t : Tail) → stop_at offset false t ≡ Open → is_open t ≡ true
stop_open offset (cut.InRequestHead head) h = refl
stop_open offset (cut.InResponseHead r head) h = refl
stop_open offset (cut.InBody g sent body) h = refl
stop_open offset _ h = absurd (cc)

pub opens-stop : (a : Recording) → (stop_of a false ≡ Open) ↔ (is_open a.tail ≡ true)
unfolding stop_of
opens-stop a = (
  stop_open (length (exchanges_text a.exchanges [])) a.tail,
  open_stop (length (exchanges_text a.exchanges [])) a.tail,
)

-- a tail that is not open is answered so whether or not the input has ended
record IsShut (s : Settings) (t : Tail) : Type 0 where
  stop : (offset : ℕ) (ended : Bool) → stop_at offset ended t ≡ stop_at offset false t
  written : (table : States) (before : ℕ) (ended : Bool) → written_tail s table before ended t ≡ written_tail s table before false t
  rules : (table : States) (ended : Bool) → rules_of_tail s table ended t ≡ rules_of_tail s table false t

shut : (s : Settings) (t : Tail) → (is_open t ≡ true → ⊥) → IsShut s t
shut s (cut.InRequestHead head) h = absurd (h refl)
shut s (cut.InResponseHead r head) h = absurd (h refl)
shut s (cut.InBody g sent body) h = absurd (h refl)
shut s _ h = record {
  stop = λ offset ended. refl;
  written = λ table before ended. refl;
  rules = λ table ended. refl;
}

exchanges_text-append : (exchanges : List Exchange) (r x : List ℕ) → exchanges_text exchanges r ++ x ≡ exchanges_text exchanges (r ++ x)
exchanges_text-append [] r x = refl
exchanges_text-append (i ∷ exchanges) r x =
    exchange_text-append i (exchanges_text exchanges r) x ∙ ap (λ l. cut.exchange_text i l) (exchanges_text-append exchanges r x)

-- the recording, with further bytes that are not looked at
with_more : Recording → List ℕ → Recording
with_more a x = record { exchanges = a.exchanges; tail = a.tail; more = a.more ++ x }

with_more-is : (s : Settings) (m x : List ℕ) (a : Recording) → IsRecording s m a → (is_open a.tail ≡ true → ⊥)
    → IsRecording s (m ++ x) (with_more a x)
unfolding with_more
with_more-is s m x a h closed = record {
  spells = ap (λ l. l ++ x) h.spells ∙ exchanges_text-append a.exchanges (tail_text a.tail a.more) x
      ∙ ap (exchanges_text a.exchanges) (tail_text-append a.tail a.more x);
  exchanges = h.exchanges;
  tail = h.tail;
  last = λ o. absurd (closed o);
}

with_more-answers : (s : Settings) (x : List ℕ) (a : Recording) → (is_open a.tail ≡ true → ⊥) → IsAnsweredAs s a (with_more a x)
unfolding with_more stop_of output_of rules_of
with_more-answers s x a closed =
    let t = shut s a.tail closed in
    record {
      stop = λ ended. t.stop (length (exchanges_text a.exchanges [])) ended;
      output = λ ended. ap (λ l. written_exchanges s finite.empty 0 a.exchanges ++ l) (t.written (table_after_all finite.empty a.exchanges) (length a.exchanges) ended);
      rules = λ ended. ap (λ l. rules_of_exchanges a.exchanges ++ l) (t.rules (table_after_all finite.empty a.exchanges) ended);
    }

pub refusal-stands : (s : Settings) (m more : List ℕ) (a : Recording) → IsRecording s m a → (stop_of a false ≡ Open → ⊥)
    → (b : Recording) × IsRecording s (m ++ more) b × IsAnsweredAs s a b
refusal-stands s m more a h refused =
    let closed : is_open a.tail ≡ true → ⊥ = λ o. refused ((opens-stop a).1 o) in
    (with_more a more, with_more-is s m more a h closed, with_more-answers s more a closed)

pub refusal-alone : (s : Settings) (m more : List ℕ) (a b : Recording) → IsRecording s m a → (stop_of a false ≡ Open → ⊥)
    → IsRecording s (m ++ more) b → IsAnsweredAs s a b
refusal-alone s m more a b h refused y =
    let c = refusal-stands s m more a h refused in
    record {
      stop = λ ended. one-stop s (m ++ more) b c.0 y c.1 ended ∙ c.2.stop ended;
      output = λ ended. one-output s (m ++ more) b c.0 y c.1 ended ∙ c.2.output ended;
      rules = λ ended. one-rules s (m ++ more) b c.0 y c.1 ended ∙ c.2.rules ended;
    }

-- ---- longer bytes

grows_of : (s : Settings) (m more : List ℕ) (a b : Recording) → IsRecording s m a → IsRecording s (m ++ more) b
    → Grows s finite.empty a.exchanges a.tail b.exchanges b.tail
grows_of s m more a b x y =
    grow_cut s finite.empty m more a.exchanges a.tail a.more b.exchanges b.tail b.more (cut_of s m a x) (cut_of s (m ++ more) b y)

-- an end of the input adds to what is written

ends_by : (s : Settings) (x : Response) (number : ℕ) (g : List ℕ) (to_end : Bool)
    → IsPrefix (written_so_far s.job x g) (cond to_end (written_whole s.job number x g) (written_so_far s.job x g))
ends_by s x number g true =
    subst (λ l. IsPrefix (written_so_far s.job x g) (written_whole s.job number x l)) (append-nil g)
    (written_so_far-whole s.job number x g [])
ends_by s x number g false = IsPrefix-all (written_so_far s.job x g)

ends_tail : (s : Settings) (table : States) (number : ℕ) (t : Tail)
    → IsPrefix (written_tail s table number false t) (written_tail s table number true t)
ends_tail s table number (cut.InBody h m g) = ends_by s (response_of s table h) (number + 1) g (is_to_end h.response.frame)
ends_tail s table number (cut.BadBody h m g b) = IsPrefix-all _
ends_tail s table number _ = IsPrefix-none _

pub output-ends : (s : Settings) (a : Recording) → IsPrefix (output_of s a false) (output_of s a true)
unfolding output_of
output-ends s a =
    IsPrefix-after (written_exchanges s finite.empty 0 a.exchanges) _ _ (ends_tail s (table_after_all finite.empty a.exchanges) (length a.exchanges) a.tail)

output-open : (s : Settings) (m more : List ℕ) (a b : Recording) → IsRecording s m a → IsRecording s (m ++ more) b
    → IsPrefix (output_of s a false) (output_of s b false)
unfolding output_of
output-open s m more a b x y = (grows_of s m more a b x y).grows 0 (length a.exchanges) (length b.exchanges)

pub output-longer : (s : Settings) (m more : List ℕ) (a b : Recording) → IsRecording s m a → IsRecording s (m ++ more) b
    → (ended : Bool) → IsPrefix (output_of s a false) (output_of s b ended)
output-longer s m more a b x y false = output-open s m more a b x y
output-longer s m more a b x y true =
    IsPrefix-trans (output_of s a false) (output_of s b false) (output_of s b true) (output-open s m more a b x y) (output-ends s b)

pub exchanges-longer : (s : Settings) (m more : List ℕ) (a b : Recording) → IsRecording s m a → IsRecording s (m ++ more) b
    → (others : List Exchange) × (b.exchanges ≡ a.exchanges ++ others)
exchanges-longer s m more a b x y = let g = grows_of s m more a b x y in (g.others, g.goes_on)

rules_of-open : (s : Settings) (table : States) (t : Tail) → rules_of_tail s table false t ≡ []
rules_of-open s table (cut.InBody h sent body) = refl
rules_of-open s table _ = refl

rules_of_exchanges-append : (exchanges others : List Exchange) → rules_of_exchanges (exchanges ++ others) ≡ rules_of_exchanges exchanges ++ rules_of_exchanges others
rules_of_exchanges-append [] others = refl
rules_of_exchanges-append (i ∷ exchanges) others = ap (λ l. i.rule ∷ l) (rules_of_exchanges-append exchanges others)

pub rules-longer : (s : Settings) (m more : List ℕ) (a b : Recording) → IsRecording s m a → IsRecording s (m ++ more) b
    → (ended : Bool) → (others : List Rule) × (rules_of s b ended ≡ rules_of s a false ++ others)
unfolding rules_of
rules-longer s m more a b x y ended =
    let g = grows_of s m more a b x y in
    let last = rules_of_tail s (table_after_all finite.empty b.exchanges) ended b.tail in
    let none : rules_of_exchanges a.exchanges ++ rules_of_tail s (table_after_all finite.empty a.exchanges) false a.tail ≡ rules_of_exchanges a.exchanges =
    ap (λ l. rules_of_exchanges a.exchanges ++ l) (rules_of-open s (table_after_all finite.empty a.exchanges) a.tail) ∙ append-nil (rules_of_exchanges a.exchanges) in (
      rules_of_exchanges g.others ++ last,
      ap (λ l. rules_of_exchanges l ++ last) g.goes_on
          ∙ ap (λ l. l ++ last) (rules_of_exchanges-append a.exchanges g.others)
          ∙ append_assoc (rules_of_exchanges a.exchanges) (rules_of_exchanges g.others) last
          ∙ ap (λ l. l ++ (rules_of_exchanges g.others ++ last)) (sym none),
    )
