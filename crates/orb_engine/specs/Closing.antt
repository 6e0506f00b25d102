-- What closing an exchange does.
use Rattle.std.specs.Prelude.{◌≡◌, ℕ, ◌+◌, List, [], ◌∷◌, ◌++◌, length, Option, Result, Ok, Err}
use Rattle.std.specs.FinMap as map
use Rattle.orb_io.specs.Told.{IsPrefix}
use Rattle.response_rules.specs.declared.rules.Rule.{Rule}
use Rattle.response_rules.specs.Tables.{rule_of}
use Rattle.response_rules.specs.Rules.{state_after_rule}
use Rattle.orb_engine.specs.declared.settings.Settings.{Settings}
use Rattle.orb_engine.specs.declared.engine.Engine.{Engine}
use Rattle.orb_engine.specs.declared.engine.states.State.TheVariants as state
use Rattle.orb_engine.specs.declared.outcome.EngineOutcome.{EngineOutcome}
use Rattle.orb_engine.specs.declared.outcome.EngineOutcome.TheVariants as outcome
use Rattle.exchanges.specs.Heads.{id_of, state_of, length_of}
use Rattle.orb_engine.specs.Judged.{judged_by}
use Rattle.media_state.specs.Table.{admits, keeps}
use Rattle.orb_engine.specs.Outputs.{written_exchanges, written_whole}
use Rattle.orb_engine.specs.Counts.{rules_of_exchanges}
use Rattle.orb_engine.specs.Writing.{IsWriterFor, WriterReads, gathered_by}
use Rattle.orb_engine.specs.Reads.{Coming, coming_response, coming_written, Common, IsTold, counts_of, table_of}

-- the rule of the exchange, if its body ends here
abbrev pub coming_rule : Settings → Coming → Rule
coming_rule s c = rule_of (judged_by s (table_of c.exchanges) c.heads) c.body

-- what is written of the exchanges before it and of it, if its body ends here
abbrev pub closed_written : Settings → Coming → List ℕ
closed_written s c =
    written_exchanges s map.empty 0 c.exchanges ++ written_whole s.job (length c.exchanges + 1) (coming_response s c) c.body

-- the body of an exchange has come whole
pub record IsClosing (e : Engine) (s : Settings) (c : Coming) (id : Option ℕ) (given : List ℕ) : Type 0 where
  pub common : Common e s c.exchanges given
  pub gave : given ++ gathered_by e.writer ≡ coming_written s c
  pub writer : WriterReads e.writer s (coming_response s c) c.body
  pub media : e.media ≡ admits (table_of c.exchanges) (id_of c.heads.request.asks)
  pub id_is : id ≡ id_of c.heads.request.asks

-- the exchange is whole, and the engine is after it
pub record Closed (e : Engine) (s : Settings) (c : Coming) (given : List ℕ) : Type 0 where
  pub gave : given ++ gathered_by e.writer ≡ closed_written s c
  pub settings : e.writer.settings ≡ s
  pub counts : e.progress.counts ≡ counts_of (rules_of_exchanges c.exchanges ++ (coming_rule s c ∷ []))
  pub told : IsTold e.progress.told s c.exchanges given
  pub asking : e.state ≡ state.RequestHead
  pub head : e.head ≡ []
  pub media : e.media
      ≡ keeps (table_of c.exchanges) (id_of c.heads.request.asks)
      (state_after_rule (state_of (table_of c.exchanges) c.heads) (coming_rule s c) (length_of c.heads))
  pub writer : IsWriterFor e.writer s
  pub offset : e.progress.offset ≡ e.progress.taken

-- the sink failed
pub record ClosedBreaks (e : Engine) (s : Settings) (c : Coming) (given : List ℕ) : Type 0 where
  pub within : IsPrefix given (closed_written s c)
  pub told : IsTold e.progress.told s c.exchanges given

-- what closing answers
abbrev pub Closes : Result (Unit {0}) EngineOutcome → Engine → Settings → Coming → (given : List ℕ) → Type 0
Closes (Ok done) e s c given = Closed e s c given
Closes (Err outcome.WriteFault) e s c given = ClosedBreaks e s c given
Closes (Err _) e s c given = ⊥
