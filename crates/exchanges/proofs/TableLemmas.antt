-- Ids that the table of media states keeps.
use Rattle.std.proofs.Common.{◌≡◌, ℕ, Bool, true, false, cond, Option, Some, None, refl, ap, ◌∙◌}
use Rattle.std.specs.Prelude.{is_some, unwrap_or}
use Rattle.std.specs.FinMap as map
use Rattle.std.proofs.lemmas.Cmp.{nat_cmp_total, eq_by_cmp_equiv}
use Rattle.media_state.specs.Table.{States, admitted, admits, kept_state, IsKept}
use Rattle.media_state.specs.declared.states.MediaState.TheVariants.{Initial, Na}
use Rattle.http_exchange.specs.declared.request.RequestHead.{RequestHead}
use Rattle.exchanges.specs.Heads.{id_of, state_before}

-- the id is kept once it is admitted
pub kept-admitted : (table : States) (id : Option ℕ) → IsKept (admits table id) id
kept-admitted table None = tt
kept-admitted table (Some id) = by (map.contains_key table id) refl
  where
    by : (b : Bool) → map.contains_key table id ≡ b → map.contains_key (admitted table id) id ≡ true
    by true is = rw is is
    by false is =
        rw is (ap is_some (map.get-insert nat_cmp_total table id Initial id
        ∙ ap (λ t. cond t (Some Initial) (map.get table id)) ((eq_by_cmp_equiv nat_cmp_total).refl id)))

-- and admitting it again changes nothing
pub admits-kept : (table : States) (id : Option ℕ) → IsKept table id → admits table id ≡ table
admits-kept table None kept = refl
admits-kept table (Some id) kept = rw kept refl

kept_state-admitted : (table : States) (id : Option ℕ) → kept_state (admits table id) id ≡ kept_state table id
kept_state-admitted table None = refl
kept_state-admitted table (Some id) =
    ap (λ (t : States). unwrap_or (map.get t id) Initial) (admits-kept (admitted table id) (Some id) (kept-admitted table (Some id)))

-- the state that a request finds is the one that it found
pub state-admitted : (table : States) (asks : RequestHead) → state_before (admits table (id_of asks)) asks ≡ state_before table asks
state-admitted table asks = by asks.media
  where
    by : (media : Bool) → cond media (kept_state (admits table (id_of asks)) (id_of asks)) Na ≡ cond media (kept_state table (id_of asks)) Na
    by true = kept_state-admitted table (id_of asks)
    by false = refl
