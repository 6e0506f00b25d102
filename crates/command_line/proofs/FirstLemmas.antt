-- What clap makes of the first word.
use Rattle.std.proofs.Common.{◌≡◌, Bool, true, false, List, [], ◌∷◌, Some, None, refl, ap, ap₂, sym, ◌∙◌, codes, is_some}
use Rattle.std.specs.Str.{bytes_eq}
use Rattle.std.proofs.lemmas.Slice.Eq.{bytes_eq-Decides}
use Rattle.clap.specs.Walk.{Names, Walk, nothing_held, rows_after, settled, finished, subcommand_met, walk, walk_from, walked}
use Rattle.clap.specs.Walk.{idle}
use Rattle.clap.specs.Simple.{App, Shape, built, entered, names_of, subcommand_of}
use Rattle.clap.specs.Kinds.{Kinds, or_else}
use Rattle.clap.specs.Faults.{check_fault, defaults_fault, entered_fault, fault_of, level_fault, settle_fault, turn_fault, walk_fault}
use Rattle.clap.specs.declared.error.kind.ErrorKind.TheVariants as kind
use Rattle.clap.proofs.WalkLemmas.{walk_stopped}
use Rattle.clap.proofs.FaultLemmas.{stopped_fault}
use Rattle.command_line.specs.declared.asked.Job.{Job}
use Rattle.command_line.specs.declared.asked.Job.TheVariants.{Filter, Explain}
use Rattle.command_line.specs.Program.{program_app}
use Rattle.command_line.specs.Taken.{Text, job_text}
use Rattle.command_line.specs.Values.{is_end_of_options}
use Rattle.command_line.proofs.WalkLemmas.{HasNoLong, HasNoShort, held_at, or_else_nil, plain_operand, plain_turn, walk_at}
use Rattle.command_line.proofs.ProgramLemmas.{job_leaf, word_leaf, operand_leaf, operands_leaf}

-- the subcommands
pub data Sub : Type 0 where
  judges : Job → Sub
  tries : Sub
  reads : Sub
  logs : Sub
  computes : Sub
  serves : Sub
  passes : Sub

abbrev pub sub_text : Sub → Text
sub_text (judges job) = job_text job
sub_text tries = codes "trial"
sub_text reads = codes "mime"
sub_text logs = codes "har"
sub_text computes = codes "type"
sub_text serves = codes "serve"
sub_text passes = codes "proxy"

abbrev pub sub_leaf : Sub → Shape
sub_leaf (judges job) = job_leaf (job_text job)
sub_leaf tries = operands_leaf (codes "trial")
sub_leaf reads = operand_leaf (codes "mime")
sub_leaf logs = word_leaf (codes "har")
sub_leaf computes = word_leaf (codes "type")
sub_leaf serves = operands_leaf (codes "serve")
sub_leaf passes = operands_leaf (codes "proxy")

abbrev pub built_app : App
built_app = built program_app

abbrev pub top : Shape
top = built_app.top

abbrev pub names : Names
names = names_of built_app

-- ---- a subcommand

abbrev stopped_at : Text → List Text → Walk
stopped_at name rest = record (walk_from nothing_held) { stopped = Some (name, rest) }

walk_enters : (sub : Sub) (rest : List Text) → walk top.rules names nothing_held (sub_text sub ∷ rest) ≡ stopped_at (sub_text sub) rest
unfolding walked
walk_enters (judges Filter) rest = sym (walk_stopped [] names (walk_from nothing_held) (codes "filter") [] rest)
walk_enters (judges Explain) rest = sym (walk_stopped [] names (walk_from nothing_held) (codes "explain") [] rest)
walk_enters tries rest = sym (walk_stopped [] names (walk_from nothing_held) (codes "trial") [] rest)
walk_enters reads rest = sym (walk_stopped [] names (walk_from nothing_held) (codes "mime") [] rest)
walk_enters logs rest = sym (walk_stopped [] names (walk_from nothing_held) (codes "har") [] rest)
walk_enters computes rest = sym (walk_stopped [] names (walk_from nothing_held) (codes "type") [] rest)
walk_enters serves rest = sym (walk_stopped [] names (walk_from nothing_held) (codes "serve") [] rest)
walk_enters passes rest = sym (walk_stopped [] names (walk_from nothing_held) (codes "proxy") [] rest)

no_walk_fault : (sub : Sub) (rest : List Text) → walk_fault top names (walk_from nothing_held) (sub_text sub ∷ rest) ≡ []
unfolding walk_fault walked
no_walk_fault (judges Filter) rest = stopped_fault top names (walk_from nothing_held) (codes "filter", []) rest
no_walk_fault (judges Explain) rest = stopped_fault top names (walk_from nothing_held) (codes "explain", []) rest
no_walk_fault tries rest = stopped_fault top names (walk_from nothing_held) (codes "trial", []) rest
no_walk_fault reads rest = stopped_fault top names (walk_from nothing_held) (codes "mime", []) rest
no_walk_fault logs rest = stopped_fault top names (walk_from nothing_held) (codes "har", []) rest
no_walk_fault computes rest = stopped_fault top names (walk_from nothing_held) (codes "type", []) rest
no_walk_fault serves rest = stopped_fault top names (walk_from nothing_held) (codes "serve", []) rest
no_walk_fault passes rest = stopped_fault top names (walk_from nothing_held) (codes "proxy", []) rest

-- the fault of the words, by where the walk over the first level ends
abbrev fault_from : Kinds → Walk → Kinds
fault_from k w = or_else k
    (or_else (entered_fault built_app w.stopped)
    (or_else (settle_fault top.rules top.args_override_self w.held)
    (or_else (defaults_fault (settled top.rules w.held).rows top.rules)
    (check_fault top (finished top.rules w.held) (is_some (entered built_app w.stopped))))))

or_else_none : (k : Kinds) → or_else k [] ≡ k
or_else_none [] = refl
or_else_none (k ∷ ks) = refl

entered_is : (sub : Sub) (rest : List Text) → fault_from [] (stopped_at (sub_text sub) rest) ≡ or_else (level_fault (sub_leaf sub) [] nothing_held rest false []) []
unfolding defaults_fault
entered_is (judges Filter) rest = refl
entered_is (judges Explain) rest = refl
entered_is tries rest = refl
entered_is reads rest = refl
entered_is logs rest = refl
entered_is computes rest = refl
entered_is serves rest = refl
entered_is passes rest = refl

-- the fault of a subcommand's words is its own
pub fault_enters : (sub : Sub) (rest : List Text) → fault_of program_app (sub_text sub ∷ rest) ≡ level_fault (sub_leaf sub) [] nothing_held rest false []
fault_enters sub rest =
    ap₂ fault_from (no_walk_fault sub rest) (walk_enters sub rest) ∙ entered_is sub rest ∙ or_else_none (level_fault (sub_leaf sub) [] nothing_held rest false [])

met_is : (sub : Sub) (rest : List Text) → entered built_app (Some (sub_text sub, rest)) ≡ Some (sub_text sub, rows_after (sub_leaf sub).rules [] rest)
met_is (judges Filter) rest = refl
met_is (judges Explain) rest = refl
met_is tries rest = refl
met_is reads rest = refl
met_is logs rest = refl
met_is computes rest = refl
met_is serves rest = refl
met_is passes rest = refl

-- the subcommand that is met, and its rows
pub sub_enters : (sub : Sub) (rest : List Text) → subcommand_of program_app (sub_text sub ∷ rest) ≡ Some (sub_text sub, rows_after (sub_leaf sub).rules [] rest)
sub_enters sub rest = ap (λ (w : Walk). entered built_app w.stopped) (walk_enters sub rest) ∙ met_is sub rest

-- ---- any other word

pub data First (w : Text) : Type 0 where
  is_sub : (sub : Sub) → w ≡ sub_text sub → First w
  is_none : subcommand_met names idle w ≡ None → First w

first_by : (w : Text) (f e t m h c s p : Bool) → bytes_eq (codes "filter") w ≡ f → bytes_eq (codes "explain") w ≡ e → bytes_eq (codes "trial") w ≡ t
    → bytes_eq (codes "mime") w ≡ m → bytes_eq (codes "har") w ≡ h → bytes_eq (codes "type") w ≡ c → bytes_eq (codes "serve") w ≡ s
    → bytes_eq (codes "proxy") w ≡ p → First w
first_by w true e t m h c s p fs es ts ms hs cs ss ps = is_sub (judges Filter) (sym ((bytes_eq-Decides (codes "filter") w).0 fs))
first_by w false true t m h c s p fs es ts ms hs cs ss ps = is_sub (judges Explain) (sym ((bytes_eq-Decides (codes "explain") w).0 es))
first_by w false false true m h c s p fs es ts ms hs cs ss ps = is_sub tries (sym ((bytes_eq-Decides (codes "trial") w).0 ts))
first_by w false false false true h c s p fs es ts ms hs cs ss ps = is_sub reads (sym ((bytes_eq-Decides (codes "mime") w).0 ms))
first_by w false false false false true c s p fs es ts ms hs cs ss ps = is_sub logs (sym ((bytes_eq-Decides (codes "har") w).0 hs))
first_by w false false false false false true s p fs es ts ms hs cs ss ps = is_sub computes (sym ((bytes_eq-Decides (codes "type") w).0 cs))
first_by w false false false false false false true p fs es ts ms hs cs ss ps = is_sub serves (sym ((bytes_eq-Decides (codes "serve") w).0 ss))
first_by w false false false false false false false true fs es ts ms hs cs ss ps = is_sub passes (sym ((bytes_eq-Decides (codes "proxy") w).0 ps))
first_by w false false false false false false false false fs es ts ms hs cs ss ps = is_none (rw (fs, es, ts, ms, hs, cs, ss, ps) refl)

pub first_view : (w : Text) → First w
first_view w = first_by w _ _ _ _ _ _ _ _ refl refl refl refl refl refl refl refl

top_no_short : HasNoShort top.rules
top_no_short x = refl

top_no_long : HasNoLong top.rules
top_no_long x = refl

-- without a subcommand the names are nothing to the turn
no_name_turn : (w : Text) → subcommand_met names idle w ≡ None → turn_fault top names (walk_from nothing_held) w ≡ turn_fault top [] (walk_at idle 1 (held_at [] None)) w
no_name_turn w none = rw none refl

stray_first : (w : Text) → is_end_of_options w ≡ false → turn_fault top [] (walk_at idle 1 (held_at [] None)) w ≡ [] → ⊥
stray_first w no_end turn =
    let plain = plain_operand top top_no_short top_no_long 1 w [] None no_end turn in
    let bad : kind.UnknownArgument ∷ kind.InvalidSubcommand ∷ [] ≡ [] = sym (plain_turn top idle 1 w (held_at [] None) plain) ∙ turn in absurd (cc)

-- no command begins with another word
pub first_refused : (w : Text) (rest : List Text) → is_end_of_options w ≡ false → subcommand_met names idle w ≡ None → fault_of program_app (w ∷ rest) ≡ [] → ⊥
unfolding walk_fault
first_refused w rest no_end none fault =
    let walks = (or_else_nil (walk_fault top names (walk_from nothing_held) (w ∷ rest)) _ fault).0 in
    let turn = (or_else_nil (turn_fault top names (walk_from nothing_held) w) (walk_fault top names (walked top.rules names (walk_from nothing_held) w) rest) walks).0 in
    stray_first w no_end (sym (no_name_turn w none) ∙ turn)
