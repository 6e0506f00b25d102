use Rattle.std.proofs.Common.{map, string_bytes, sym, ap, ◌∙◌, subst}
use Rattle.clap.specs.Words.{App, fault_of, is_simple_and_free}
use Rattle.clap.specs.Kinds.{HasKind}
use Rattle.command_line.specs.Program.{program_app}
use Rattle.command_line.proofs.ParseLemmas.{rows_met, faulty}
use Rattle.command_line.proofs.reading.parse.Goals as goal

pub returns-in-Ok-try_get_matches_from-clause-rows :
    goal.returns-in-Ok-try_get_matches_from-clause-rows
returns-in-Ok-try_get_matches_from-clause-rows c =
    rows_met _ (map string_bytes c.args.words.now) c.in-Ok-try_get_matches_from.matches c.in-Ok.ensures
    c.in-Ok-try_get_matches_from.ensures.matches

pub returns-in-Ok-try_get_matches_from-clause-ok :
    goal.returns-in-Ok-try_get_matches_from-clause-ok
returns-in-Ok-try_get_matches_from-clause-ok c =
    ap (λ (a : App). fault_of a (map string_bytes c.args.words.now)) (sym c.in-Ok.ensures)
    ∙ c.in-Ok-try_get_matches_from.ensures.kinds (ap is_simple_and_free c.in-Ok.ensures)

pub returns : goal.returns
returns c =
    record {
      rows = tt;
      ok = tt;
      err = λ usage clear.
          faulty (fault_of program_app (map string_bytes c.args.words.now)) c.in-Err-try_get_matches_from.error
          (subst (λ (a : App). HasKind (fault_of a (map string_bytes c.args.words.now)) c.in-Err-try_get_matches_from.error) c.in-Ok.ensures
          (c.in-Err-try_get_matches_from.ensures.kinds (ap is_simple_and_free c.in-Ok.ensures)))
          (λ memory. c.in_default.not-OutOfMemory (c.kind.ensures ∙ memory))
          clear;
    }
