-- Content that is passed on.
use Rattle.std.proofs.Common.{◌≡◌, ℕ, false, List, ◌++◌, sym, subst, ◌∙◌}
use Rattle.std.specs.FinMap as map
use Rattle.orb_io.specs.Told.{IsPrefix}
use Rattle.orb_engine.specs.declared.settings.Settings.{Settings}
use Rattle.orb_engine.specs.declared.engine.Engine.{Engine}
use Rattle.orb_engine.specs.declared.engine.states.Incoming.{Incoming}
use Rattle.orb_engine.specs.declared.engine.states.State.{State}
use Rattle.orb_engine.specs.declared.engine.states.State.TheVariants as state
use Rattle.orb_engine.specs.Recording.{Exchange}
use Rattle.orb_engine.specs.Outputs.{written_exchanges, written_so_far}
use Rattle.orb_engine.specs.Writing.{WriterReads, gathered_by}
use Rattle.orb_engine.specs.Reads.{coming_response, Common, Passes, Fills, FillsAt, Breaks}
use Rattle.orb_engine.proofs.ClosingLemmas.{told-more}
use Rattle.orb_engine.proofs.StepLemmas.{seen-body, breaks-body}

pub fills-at : (t : State) (incoming : Incoming) (e : Engine) (s : Settings) (m given : List ℕ) → t ≡ state.Body incoming
    → Fills incoming e s m given → FillsAt t e s m given
fills-at t incoming e s m given is f = subst (λ (u : State). FillsAt u e s m given) (sym is) f

-- all but the writer is as it was
pub record IsKept (e e' : Engine) : Type 0 where
  pub media : e'.media ≡ e.media
  pub offset : e'.progress.offset ≡ e.progress.offset
  pub taken : e'.progress.taken ≡ e.progress.taken
  pub counts : e'.progress.counts ≡ e.progress.counts
  pub told : e'.progress.told ≡ e.progress.told
  pub settings : e'.writer.settings ≡ e.writer.settings

pub common-kept : (e e' : Engine) (s : Settings) (exchanges : List Exchange) (given pushed : List ℕ) → IsKept e e' → Common e s exchanges given
    → Common e' s exchanges (given ++ pushed)
common-kept e e' s exchanges given pushed kept c = record {
  settings = kept.settings ∙ c.settings;
  offset = kept.offset ∙ c.offset;
  counts = kept.counts ∙ c.counts;
  told = rw kept.told (told-more e.progress.told s exchanges given pushed c.told);
}

pub passed-fills : (incoming : Incoming) (e e' : Engine) (s : Settings) (m piece given more : List ℕ)
    (p : Passes incoming e s m piece given) → IsKept e e'
    → (given ++ more) ++ gathered_by e'.writer
    ≡ written_exchanges s map.empty 0 p.coming.exchanges ++ written_so_far s.job (coming_response s p.coming) (p.coming.body ++ piece)
    → WriterReads e'.writer s (coming_response s p.coming) (p.coming.body ++ piece)
    → Fills incoming e' s m (given ++ more)
passed-fills incoming e e' s m piece given more p kept gave reads = record {
  coming = record { exchanges = p.coming.exchanges; heads = p.coming.heads; sent = p.coming.sent; body = p.coming.body ++ piece };
  spells = p.spells;
  whole = p.whole;
  good = p.good;
  prefix = p.prefix;
  gave = gave;
  taken = kept.taken ∙ p.taken;
  common = common-kept e e' s p.coming.exchanges given more kept p.common;
  receives = record {
    unframer = p.unframer;
    writer = reads;
    media = kept.media ∙ p.media;
    id = p.id;
    to_end = p.to_end;
  };
}

pub passed-breaks : (incoming : Incoming) (e e' : Engine) (s : Settings) (m piece given more : List ℕ)
    (p : Passes incoming e s m piece given) → IsKept e e'
    → IsPrefix (given ++ more)
    (written_exchanges s map.empty 0 p.coming.exchanges ++ written_so_far s.job (coming_response s p.coming) (p.coming.body ++ piece))
    → Breaks e' s m false (given ++ more)
passed-breaks incoming e e' s m piece given more p kept within =
    let c = p.coming in
    breaks-body e' s m given more c.exchanges _ (rw kept.told p.common.told) within
    (seen-body s m c.exchanges c.heads c.sent (c.body ++ piece) incoming.unframer p.spells p.whole p.good p.prefix p.unframer)
