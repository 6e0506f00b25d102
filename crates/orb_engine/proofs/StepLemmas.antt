-- How much of a body was read, and what a fault in it leaves.
use Rattle.std.proofs.Common.{Result, ◌≡◌, ℕ, ◌+◌, ◌≤◌, false, List, [], ◌∷◌, ◌++◌, length, refl, sym, ap, subst, ◌∙◌, inl, inr, arith, append_assoc}
use Rattle.std.specs.FinMap as map
use Rattle.std.proofs.lemmas.List.{append-nil}
use Rattle.orb_io.specs.Told.{IsPrefix}
use Rattle.orb_io.proofs.ToldLemmas.{IsPrefix-all, IsPrefix-trans, IsPrefix-after, IsPrefix-append}
use Rattle.http_exchange.specs.Marks.{Mark, Frame, Content, bytes_of, content_of}
use Rattle.http_exchange.specs.Frames.{IsBodyPrefix, IsWhole}
use Rattle.http_exchange.specs.Reads.{HasRead as UnframerHasRead}
use Rattle.http_exchange.specs.declared.frames.BodyFrame.{BodyFrame}
use Rattle.http_exchange.specs.declared.frames.BodyFrame.TheVariants as frame
use Rattle.http_exchange.specs.declared.unframing.Unframer.{Unframer}
use Rattle.http_exchange.proofs.UnframerLemmas.{whole-or-not}
use Rattle.orb_engine.specs.declared.settings.Settings.{Settings}
use Rattle.orb_engine.specs.declared.engine.Engine.{Engine}
use Rattle.exchanges.specs.Heads.{Heads, AreHeads}
use Rattle.orb_engine.specs.Judged.{response_of}
use Rattle.orb_engine.specs.Recording as cut
use Rattle.orb_engine.specs.Recording.{Exchange, Recording, AreExchanges, IsRecording, heads_text, exchanges_text}
use Rattle.orb_engine.specs.Outputs.{output_of, written_exchanges, written_so_far}
use Rattle.orb_engine.specs.declared.outcome.EngineOutcome.{EngineOutcome}
use Rattle.orb_engine.specs.Reads.{Coming, open_cut, table_of, IsTold, Breaks, HaltCause, Causes}
use Rattle.orb_engine.proofs.CutLemmas.{exchanges_text-snoc, exchanges-snoc}
use Rattle.orb_engine.proofs.ClosingLemmas.{so_far-in-whole}
use Rattle.orb_engine.proofs.FillLemmas.{empty-open, output-body, whole_exchange, closed-output}

-- content is no longer than the bytes in which it is sent
content-short : (k : List Mark) → length (content_of k) ≤ length (bytes_of k)
content-short [] = omega arith
content-short (Frame b ∷ k) = let rest = content-short k in omega arith
content-short (Content b ∷ k) = let rest = content-short k in omega arith

pub prefix-short : (f : BodyFrame) (m g : List ℕ) → IsBodyPrefix f m g → length g ≤ length m
prefix-short frame.Empty m g h = omega (arith, ap length h.1)
prefix-short (frame.Length n) m g h = omega (arith, ap length h.1)
prefix-short frame.Chunked m g h = rw (← h.reads, ← h.gives) (content-short h.prefix)
prefix-short frame.ToEnd m g h = omega (arith, ap length h)

-- a recording of the bytes up to those of a body that have come, whose output begins with what is written of these
pub record IsSeen (s : Settings) (m : List ℕ) (exchanges : List Exchange) (wrote : List ℕ) : Type 0 where
  pub recording : Recording
  pub cut : IsRecording s m recording
  pub within : IsPrefix wrote (output_of s recording false)
  pub others : List Exchange
  pub are : recording.exchanges ≡ exchanges ++ others

pub seen-body : (s : Settings) (m : List ℕ) (exchanges : List Exchange) (h : Heads) (sent body : List ℕ) (u : Unframer)
    → m ≡ exchanges_text exchanges (heads_text h sent) → AreExchanges s map.empty exchanges → AreHeads (table_of exchanges) h
    → IsBodyPrefix h.response.frame sent body → UnframerHasRead u h.response.frame sent body
    → IsSeen s m exchanges (written_exchanges s map.empty 0 exchanges ++ written_so_far s.job (response_of s (table_of exchanges) h) body)
seen-body s m exchanges h sent body u spells whole good prefix reads =
    elim (whole-or-not u h.response.frame sent body reads.stands) [ inl ended ↦ closed ended | inr unfinished ↦ coming unfinished ]
  where
    Seen : Type 0
    Seen = IsSeen s m exchanges (written_exchanges s map.empty 0 exchanges ++ written_so_far s.job (response_of s (table_of exchanges) h) body)

    spelled : m ≡ exchanges_text exchanges (heads_text h (sent ++ []))
    spelled = spells ∙ ap (λ t. exchanges_text exchanges (heads_text h t)) (sym (append-nil sent))

    closed : IsWhole h.response.frame sent → Seen
    closed ended =
        let c : Coming = record { exchanges = exchanges; heads = h; sent = sent; body = body } in
        let i = whole_exchange s c in
        record {
          recording = open_cut (exchanges ++ (i ∷ [])) (cut.InRequestHead []);
          cut = record {
            spells = spelled ∙ sym (exchanges_text-snoc exchanges i []);
            exchanges = exchanges-snoc s map.empty exchanges i whole (record { heads = good; prefix = prefix; whole = ended; decided = refl });
            tail = empty-open;
            last = λ _. refl;
          };
          within = subst (λ (t : List ℕ). IsPrefix (written_exchanges s map.empty 0 exchanges ++ written_so_far s.job (response_of s (table_of exchanges) h) body) t)
              (closed-output s c)
              (IsPrefix-after (written_exchanges s map.empty 0 exchanges) _ _ (so_far-in-whole s.job (length exchanges + 1) (response_of s (table_of exchanges) h) body));
          others = i ∷ [];
          are = refl;
        }

    coming : (IsWhole h.response.frame sent → ⊥) → Seen
    coming unfinished = record {
      recording = open_cut exchanges (cut.InBody h sent body);
      cut = record {
        spells = spelled;
        exchanges = whole;
        tail = record { heads = good; prefix = prefix; unfinished = unfinished };
        last = λ _. refl;
      };
      within = subst (λ (t : List ℕ). IsPrefix t (output_of s (open_cut exchanges (cut.InBody h sent body)) false))
          (output-body s exchanges h sent body [])
          (IsPrefix-all _);
      others = [];
      are = sym (append-nil exchanges);
    }

-- a fault while a body was written
pub breaks-body : (e : Engine) (s : Settings) (m given more : List ℕ) (exchanges : List Exchange) (wrote : List ℕ)
    → IsTold e.progress.told s exchanges given → IsPrefix (given ++ more) wrote → IsSeen s m exchanges wrote → Breaks e s m false (given ++ more)
breaks-body e s m given more exchanges wrote told within seen = record {
  seen = m;
  unseen = [];
  all = sym (append-nil m);
  all_seen = λ _. refl;
  recording = seen.recording;
  cut = seen.cut;
  within = IsPrefix-trans _ wrote _ within seen.within;
  told = record {
    prefix = told.prefix;
    others = told.others ++ seen.others;
    are = seen.are ∙ ap (λ t. t ++ seen.others) told.are ∙ append_assoc told.prefix told.others seen.others;
    numbers = told.numbers;
    whole = IsPrefix-trans _ given _ told.whole (IsPrefix-append given more);
  };
}

-- the cause of what stopped a step, after a call that found no fault
pub HaltCause-after : (o : EngineOutcome) (a b c : ℕ) → b ≡ a → HaltCause o b c → HaltCause o a c
HaltCause-after o a b c is cause = subst (λ (n : ℕ). HaltCause o n c) is cause

pub Causes-after : {T : Type 0} (r : Result T EngineOutcome) (a b c : ℕ) → b ≡ a → Causes r b c → Causes r a c
Causes-after r a b c is cause = subst (λ (n : ℕ). Causes r n c) is cause
