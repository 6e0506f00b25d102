-- What clap answers, where it was told of this command line.
use Rattle.std.proofs.Common.{◌≡◌, List, [], ◌∷◌, ap, ◌∙◌, inl, inr}
use Rattle.clap.specs.Words.{HasMatchesOf, App, kind_of, is_simple, subcommand_of, subcommand_rows_of}
use Rattle.clap.specs.Kinds.{Kinds, HasKind}
use Rattle.clap.specs.declared.error.Error.{Error}
use Rattle.clap.specs.declared.error.kind.ErrorKind.TheVariants as kind
use Rattle.clap.specs.declared.parser.matches.ArgMatches.{ArgMatches}
use Rattle.command_line.specs.Program.{program_app}
use Rattle.command_line.specs.Taken.{Text}

pub rows_met : (a : App) (words : List Text) (m : ArgMatches) → a ≡ program_app → HasMatchesOf a words m
    → subcommand_rows_of m ≡ subcommand_of program_app words
rows_met a words m is has = (has (ap is_simple is)).1 ∙ ap (λ (x : App). subcommand_of x words) is

-- an error that isn't of memory is one of the words
pub faulty : (kinds : Kinds) (e : Error) → HasKind kinds e → (kind_of e ≡ kind.OutOfMemory → ⊥) → kinds ≡ [] → ⊥
faulty [] e (inl memory) other clear = other memory
faulty [] e (inr among) other clear = among
faulty (k ∷ kinds) e has other clear = absurd (cc)
