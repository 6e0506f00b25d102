-- The self-test is a whole recording.
use Rattle.std.proofs.Common.{◌≡◌, ℕ, zero, suc, ◌+◌, ◌*◌, ◌≤◌, List, [], ◌∷◌, length, refl, ap, ◌∙◌, arith, length-append}
use Rattle.std.specs.FinMap as map
use Rattle.media_state.specs.Table.{States}
use Rattle.http_exchange.specs.HeadTexts.{IsOpenHead, head_limit}
use Rattle.http_exchange.specs.Head.{head_length}
use Rattle.orb_engine.specs.declared.settings.Settings.{Settings}
use Rattle.orb_engine.specs.Ends.{stop_of}
use Rattle.orb_engine.specs.Recording as cut
use Rattle.orb_engine.specs.Recording.{Exchange, Recording, IsRecording, AreExchanges, table_after, exchange_text, exchanges_text}
use Rattle.trial.specs.Trials.{kind_of, size_of, id_of, numbered_text, trial_of}
use Rattle.trial.specs.Recorded.{IsRecorded}
use Rattle.trial.proofs.TableLemmas.{IsSmall, empty_is_small}
use Rattle.trial.proofs.ExchangeLemmas.{exchange_for, is_exchange, spells, table_stays_small, text_fits}

-- the exchange of this number
abbrev numbered : Settings → States → (number : ℕ) → Exchange
numbered s table number = exchange_for s table (kind_of number) (size_of number) (id_of number)

exchanges_of : Settings → States → (seed count : ℕ) → List Exchange
exchanges_of s table seed zero = []
exchanges_of s table seed (suc count) =
    numbered s table seed ∷ exchanges_of s (table_after table (numbered s table seed)) (seed + 1) count

length-exchanges : (s : Settings) (table : States) (seed count : ℕ) → length (exchanges_of s table seed count) ≡ count
unfolding exchanges_of
length-exchanges s table seed zero = refl
length-exchanges s table seed (suc count) =
    ap suc (length-exchanges s (table_after table (numbered s table seed)) (seed + 1) count)

are_exchanges : (s : Settings) (table : States) (seed count : ℕ) → IsSmall table → AreExchanges s table (exchanges_of s table seed count)
unfolding exchanges_of
are_exchanges s table seed zero small = tt
are_exchanges s table seed (suc count) small =
    let kind = kind_of seed in
    let stays = table_stays_small s table kind (size_of seed) (id_of seed) (omega arith) small in (
      is_exchange s table kind (size_of seed) (id_of seed) (omega arith) (omega arith) small,
      are_exchanges s (table_after table (numbered s table seed)) (seed + 1) count stays,
    )

spelled : (s : Settings) (table : States) (seed count : ℕ) → trial_of seed count ≡ exchanges_text (exchanges_of s table seed count) []
unfolding exchanges_of
spelled s table seed zero = refl
spelled s table seed (suc count) =
    spells s table (kind_of seed) (size_of seed) (id_of seed) (trial_of (seed + 1) count)
    ∙ ap (exchange_text (numbered s table seed)) (spelled s (table_after table (numbered s table seed)) (seed + 1) count)

trial_fits : (seed count : ℕ) → length (trial_of seed count) ≤ count * 200000
trial_fits seed zero = omega arith
trial_fits seed (suc count) =
    omega (
      arith,
      length-append (numbered_text seed) (trial_of (seed + 1) count),
      text_fits (kind_of seed) (size_of seed) (id_of seed) (omega arith) (omega arith),
      trial_fits (seed + 1) count,
    )

-- nothing stands after the exchanges
abbrev recording_of : Settings → (seed count : ℕ) → Recording
recording_of s seed count = record {
  exchanges = exchanges_of s map.empty seed count;
  tail = cut.InRequestHead [];
  more = [];
}

nothing_is_open : IsOpenHead []
unfolding head_length head_limit
nothing_is_open = record { open_ = refl; fits = omega arith }

is_recording : (s : Settings) (seed count : ℕ) → IsRecording s (trial_of seed count) (recording_of s seed count)
is_recording s seed count = record {
  spells = spelled s map.empty seed count;
  exchanges = are_exchanges s map.empty seed count empty_is_small;
  tail = nothing_is_open;
  last = λ e. refl;
}

pub is_recorded : (s : Settings) (seed count : ℕ) → count ≤ 1000000 → IsRecorded s seed count
unfolding stop_of
is_recorded s seed count few = record {
  recording = recording_of s seed count;
  whole = record {
    cut = is_recording s seed count;
    done = refl;
    fits = omega (arith, trial_fits seed count);
  };
  number = length-exchanges s map.empty seed count;
}
