-- The end of an exchange.
use Rattle.std.proofs.Common.{◌≡◌, ℕ, ◌+◌, List, [], ◌++◌, length, Option, None, Some, refl, ap, subst, arith}
use Rattle.orb_io.specs.Told.{IsPrefix}
use Rattle.orb_io.proofs.ToldLemmas.{IsPrefix-append, IsPrefix-trans}
use Rattle.media_state.specs.Table.{States}
use Rattle.media_state.specs.declared.states.MediaState.{MediaState}
use Rattle.orb_engine.specs.declared.settings.Settings.{Settings}
use Rattle.orb_engine.specs.declared.progress.Counts.{Counts}
use Rattle.std.proofs.lemmas.List.{append-nil}
use Rattle.body_filter.specs.Responses.{Response}
use Rattle.orb_engine.specs.declared.settings.Job.{Job}
use Rattle.orb_engine.proofs.OutputLaws.{written_so_far-whole}
use Rattle.media_state.specs.Table.{admits, keeps}
use Rattle.media_state.specs.Table.{stored}
use Rattle.orb_engine.specs.Recording.{Exchange}
use Rattle.orb_engine.specs.Outputs.{written_so_far, written_whole}
use Rattle.orb_engine.specs.Counts.{rules_of_exchanges}
use Rattle.orb_engine.specs.Reads.{IsTold, counts_of}
use Rattle.orb_engine.proofs.CutLemmas.{count-sum, rules-length}

pub stored-keeps : (table : States) (id : Option ℕ) (state : MediaState) → stored (admits table id) id state ≡ keeps table id state
stored-keeps table None state = refl
stored-keeps table (Some id) state = refl

-- its number
pub number-is : (c : Counts) (exchanges : List Exchange) → c ≡ counts_of (rules_of_exchanges exchanges) → c.allowed + c.blocked + 1 ≡ length exchanges + 1
number-is c exchanges is =
    omega (arith, ap (λ (d : Counts). d.allowed) is, ap (λ (d : Counts). d.blocked) is, count-sum (rules_of_exchanges exchanges), rules-length exchanges)

-- what was told stays told
pub told-more : (c : Counts) (s : Settings) (exchanges : List Exchange) (given pushed : List ℕ) → IsTold c s exchanges given
    → IsTold c s exchanges (given ++ pushed)
told-more c s exchanges given pushed told = record {
  prefix = told.prefix;
  others = told.others;
  are = told.are;
  numbers = told.numbers;
  whole = IsPrefix-trans _ given (given ++ pushed) told.whole (IsPrefix-append given pushed);
}

pub so_far-in-whole : (job : Job) (number : ℕ) (x : Response) (m : List ℕ) → IsPrefix (written_so_far job x m) (written_whole job number x m)
so_far-in-whole job number x m =
    subst (λ (t : List ℕ). IsPrefix (written_so_far job x m) (written_whole job number x t)) (append-nil m)
    (written_so_far-whole job number x m [])
