-- The words that are taken are those that clap and the values leave.
use Rattle.std.proofs.Common.{◌≡◌, ℕ, Bool, true, false, List, [], ◌∷◌, ◌++◌, Option, Some, None, refl, ap, sym, ◌∙◌, subst, codes}
use Rattle.std.specs.Prelude.{option_map, IsTrue}
use Rattle.std.specs.List.{list_any}
use Rattle.clap.specs.Walk.{Row, first_of, rows_after}
use Rattle.clap.specs.Simple.{subcommand_of}
use Rattle.clap.specs.Faults.{fault_of}
use Rattle.command_line.specs.declared.asked.Job.{Job}
use Rattle.command_line.specs.declared.asked.Job.TheVariants.{Filter, Explain}
use Rattle.command_line.specs.declared.asked.Policy.{Policy}
use Rattle.command_line.specs.declared.numbers.TheConstants.{MOST_COUNT, MOST_SEED}
use Rattle.command_line.specs.Program.{program_app}
use Rattle.command_line.specs.Taken.{Asked, Judge, Trial, Mime, Har, ComputedType, Serve, Proxy, Given, IsListening, IsTaken, Name, Spelling, Text, apart, if_named, is_operand, job_text, joined, limit, name_text, options_words, policy, spelled, values_of}
use Rattle.command_line.specs.Values.{asked_as, asked_by, is_end_of_options, judge_of, limit_of, mime_of, number_in, of_both, operand_of, policy_of, listening_of, trial_of}
use Rattle.command_line.proofs.WordLemmas.{HasNoEnd, neither, operand_is}
use Rattle.command_line.proofs.WalkLemmas.{Ends, IsQuiet, level_in, level_out}
use Rattle.command_line.proofs.ProgramLemmas.{job_leaf}
use Rattle.command_line.proofs.OptionLemmas.{rows_of}
use Rattle.command_line.proofs.JobLemmas.{claims}
use Rattle.command_line.proofs.SpellLemmas.{IsSaid, Said, first_given, spell}
use Rattle.command_line.proofs.OperandLemmas.{Operand, Operands, first_row, no_word, no_words, none, one, one_word, operand_ends, operand_words, operands_end, operands_words, second_row, start, two, word_ends}
use Rattle.command_line.proofs.FirstLemmas.{First, Sub, computes, fault_enters, first_refused, first_view, is_none, is_sub, judges, logs, passes, reads, serves, sub_enters, sub_leaf, sub_text, tries}
use Rattle.command_line.proofs.ValueLemmas.{both_are, first_is, limit_is, limit_reads, limit_said, number_is, number_operand, number_reads, operand_reads, operand_text, policy_is, policy_reads, policy_said}

-- ---- what the words of a subcommand ask for

judge_taken : (job : Job) (rest : List Text) (leaves : List Row) (asked : Asked) → HasNoEnd rest → Ends (job_leaf (job_text job)) start rest leaves
    → judge_of job leaves ≡ Some asked → IsTaken (job_text job ∷ rest) asked
judge_taken job rest leaves asked no_end e asks =
    let found = (claims (job_text job) rest no_end).between [] None [] leaves (λ _. record { are = refl; once = λ x. tt }) e in
    let first = ap (λ (r : List Row). first_of (name_text policy) r) found.leaves ∙ first_is policy found.options in
    let second = ap (λ (r : List Row). first_of (name_text limit) r) found.leaves ∙ first_is limit found.options in
    let both = both_are (Judge job) (policy_of (first_of (codes "policy") leaves)) (limit_of (first_of (codes "limit") leaves)) asked asks in
    subst (λ (a : Asked). IsTaken (job_text job ∷ rest) a) both.are (record {
      options = found.options;
      are = ap (λ t. job_text job ∷ t) found.are;
      says_policy = policy_is (values_of policy found.options) both.x (found.once policy) (sym (ap policy_of first) ∙ both.has_first);
      says_limit = limit_is (values_of limit found.options) both.y (found.once limit) (sym (ap limit_of second) ∙ both.has_second);
    })

none_both : {X : Type 0} (ask : X → ℕ → Asked) (first : Option X) (asked : Asked) → of_both ask first None ≡ Some asked → ⊥
none_both ask None asked e = absurd (cc)
none_both ask (Some x) asked e = absurd (cc)

trial_taken : (rest : List Text) (leaves : List Row) (asked : Asked) → Operands rest leaves → trial_of leaves ≡ Some asked → IsTaken (codes "trial" ∷ rest) asked
trial_taken rest leaves asked (none rows) asks =
    let bad = subst (λ (r : List Row). trial_of r ≡ Some asked) rows asks in absurd (cc)
trial_taken rest leaves asked (one a rows) asks =
    absurd (none_both Trial (number_in 0 MOST_SEED a) asked (subst (λ (r : List Row). trial_of r ≡ Some asked) rows asks))
trial_taken rest leaves asked (two a b is rows) asks =
    let both = both_are Trial (number_in 0 MOST_SEED a) (number_in 1 MOST_COUNT b) asked (subst (λ (r : List Row). trial_of r ≡ Some asked) rows asks) in
    subst (λ (k : Asked). IsTaken (codes "trial" ∷ rest) k) both.are (record {
      seed_word = a;
      count_word = b;
      are = ap (λ t. codes "trial" ∷ t) is;
      writes_seed = number_is 0 MOST_SEED a both.x both.has_first;
      writes_count = number_is 1 MOST_COUNT b both.y both.has_second;
    })

-- an address and a count
module _ (ask : Text → ℕ → Asked) (name : Text)
    (takes : (words : List Text) (address : Text) (count : ℕ) → IsListening name words address count → IsTaken words (ask address count)) where
  listening_taken : (rest : List Text) (leaves : List Row) (asked : Asked) → Operands rest leaves → listening_of ask leaves ≡ Some asked → IsTaken (name ∷ rest) asked
  listening_taken rest leaves asked (none rows) asks =
      let bad = subst (λ (r : List Row). listening_of ask r ≡ Some asked) rows asks in absurd (cc)
  listening_taken rest leaves asked (one a rows) asks =
      absurd (none_both ask (operand_of a) asked (subst (λ (r : List Row). listening_of ask r ≡ Some asked) rows asks))
  listening_taken rest leaves asked (two a b is rows) asks =
      let both = both_are ask (operand_of a) (number_in 1 MOST_COUNT b) asked (subst (λ (r : List Row). listening_of ask r ≡ Some asked) rows asks) in
      let operand = operand_text a both.x both.has_first in
      subst (λ (k : Asked). IsTaken (name ∷ rest) k) both.are (takes (name ∷ rest) both.x both.y (record {
        count_word = b;
        are = ap (λ t. name ∷ t) (is ∙ ap (λ t. t ∷ b ∷ []) operand.are);
        operand = subst (λ (t : Text). IsTrue (is_operand t)) operand.are operand.operand;
        writes_count = number_is 1 MOST_COUNT b both.y both.has_second;
      }))

serve_taken : (rest : List Text) (leaves : List Row) (asked : Asked) → Operands rest leaves → listening_of Serve leaves ≡ Some asked → IsTaken (codes "serve" ∷ rest) asked
serve_taken = listening_taken Serve (codes "serve") (λ words address count is. is)

proxy_taken : (rest : List Text) (leaves : List Row) (asked : Asked) → Operands rest leaves → listening_of Proxy leaves ≡ Some asked → IsTaken (codes "proxy" ∷ rest) asked
proxy_taken = listening_taken Proxy (codes "proxy") (λ words address count is. is)

-- a word and nothing after it
word_taken : (name : Text) (rest : List Text) (ask asked : Asked) → IsTaken (name ∷ []) ask → rest ≡ [] → Some ask ≡ Some asked → IsTaken (name ∷ rest) asked
word_taken name rest ask asked is empty asks =
    let same : ask ≡ asked = cc in
    let words = ap (λ t. name ∷ t) (sym empty) in
    subst (λ (t : List Text). IsTaken t asked) words (subst (λ (k : Asked). IsTaken (name ∷ []) k) same is)

mime_by : (a : Text) (rest : List Text) (asked : Asked) (o : Option Text) → rest ≡ a ∷ [] → operand_of a ≡ o → option_map Mime o ≡ Some asked
    → IsTaken (codes "mime" ∷ rest) asked
mime_by a rest asked None is found e = absurd (cc)
mime_by a rest asked (Some text) is found e =
    let operand = operand_text a text found in
    let same : Mime text ≡ asked = cc in
    subst (λ (k : Asked). IsTaken (codes "mime" ∷ rest) k) same (record {
      are = ap (λ t. codes "mime" ∷ t) (is ∙ ap (λ t. t ∷ []) operand.are);
      operand = subst (λ (t : Text). IsTrue (is_operand t)) operand.are operand.operand;
    })

mime_taken : (rest : List Text) (leaves : List Row) (asked : Asked) → Operand rest leaves → mime_of leaves ≡ Some asked → IsTaken (codes "mime" ∷ rest) asked
mime_taken rest leaves asked (no_word rows) asks =
    let bad = subst (λ (r : List Row). mime_of r ≡ Some asked) rows asks in absurd (cc)
mime_taken rest leaves asked (one_word a is rows) asks =
    mime_by a rest asked (operand_of a) is refl (subst (λ (r : List Row). mime_of r ≡ Some asked) rows asks)

sub_taken : (sub : Sub) (rest : List Text) (leaves : List Row) (asked : Asked) → HasNoEnd rest → Ends (sub_leaf sub) start rest leaves
    → asked_as (sub_text sub) leaves ≡ Some asked → IsTaken (sub_text sub ∷ rest) asked
sub_taken (judges Filter) rest leaves asked no_end e asks = judge_taken Filter rest leaves asked no_end e asks
sub_taken (judges Explain) rest leaves asked no_end e asks = judge_taken Explain rest leaves asked no_end e asks
sub_taken tries rest leaves asked no_end e asks = trial_taken rest leaves asked (operands_words (codes "trial") rest leaves no_end e) asks
sub_taken reads rest leaves asked no_end e asks = mime_taken rest leaves asked (operand_words (codes "mime") rest leaves no_end e) asks
sub_taken logs rest leaves asked no_end e asks = word_taken (codes "har") rest Har asked refl (no_words (codes "har") rest leaves no_end e) asks
sub_taken computes rest leaves asked no_end e asks = word_taken (codes "type") rest ComputedType asked refl (no_words (codes "type") rest leaves no_end e) asks
sub_taken serves rest leaves asked no_end e asks = serve_taken rest leaves asked (operands_words (codes "serve") rest leaves no_end e) asks
sub_taken passes rest leaves asked no_end e asks = proxy_taken rest leaves asked (operands_words (codes "proxy") rest leaves no_end e) asks

quiet : (sub : Sub) → IsQuiet (sub_leaf sub)
quiet (judges Filter) = record { defaults = refl; check = λ rows. refl }
quiet (judges Explain) = record { defaults = refl; check = λ rows. refl }
quiet tries = record { defaults = refl; check = λ rows. refl }
quiet reads = record { defaults = refl; check = λ rows. refl }
quiet logs = record { defaults = refl; check = λ rows. refl }
quiet computes = record { defaults = refl; check = λ rows. refl }
quiet serves = record { defaults = refl; check = λ rows. refl }
quiet passes = record { defaults = refl; check = λ rows. refl }

from_first : (w : Text) (rest : List Text) (asked : Asked) → (is_end_of_options w ≡ false) × HasNoEnd rest → fault_of program_app (w ∷ rest) ≡ []
    → asked_by (subcommand_of program_app (w ∷ rest)) ≡ Some asked → First w → IsTaken (w ∷ rest) asked
from_first w rest asked no_end fault asks (is_none unmet) = absurd (first_refused w rest no_end.0 unmet fault)
from_first w rest asked no_end fault asks (is_sub sub is) =
    let words = ap (λ t. t ∷ rest) is in
    let clear = sym (fault_enters sub rest) ∙ ap (fault_of program_app) (sym words) ∙ fault in
    let means = ap asked_by (sym (sub_enters sub rest) ∙ ap (subcommand_of program_app) (sym words)) ∙ asks in
    subst (λ (t : List Text). IsTaken t asked) (sym words)
    (sub_taken sub rest (rows_after (sub_leaf sub).rules [] rest) asked no_end.1 (level_in (sub_leaf sub) rest (quiet sub) clear) means)

-- words that clap takes, with values that mean something, are taken
pub taken_from : (words : List Text) (asked : Asked) → HasNoEnd words → fault_of program_app words ≡ [] → asked_by (subcommand_of program_app words) ≡ Some asked
    → IsTaken words asked
taken_from [] asked no_end fault asks = absurd (cc)
taken_from (w ∷ rest) asked no_end fault asks = from_first w rest asked (neither (is_end_of_options w) (list_any is_end_of_options rest) no_end) fault asks (first_view w)

-- the same of what the code finds
pub read_taken : (words : List Text) (has_end : Bool) (met : Option (Text × List Row)) (asked : Asked) → has_end ≡ list_any is_end_of_options words → has_end ≡ false
    → fault_of program_app words ≡ [] → met ≡ subcommand_of program_app words → Some asked ≡ asked_by met → IsTaken words asked
read_taken words has_end met asked tests no_end fault are asks = taken_from words asked (sym tests ∙ no_end) fault (sym (asks ∙ ap asked_by are))

-- ---- what clap makes of words that are taken

-- words that clap takes, and what their values ask for
pub record Answers (words : List Text) (asked : Asked) : Type 0 where
  pub no_end : HasNoEnd words
  pub fault : fault_of program_app words ≡ []
  pub asks : asked_by (subcommand_of program_app words) ≡ Some asked

sub_no_end : (sub : Sub) → is_end_of_options (sub_text sub) ≡ false
sub_no_end (judges Filter) = refl
sub_no_end (judges Explain) = refl
sub_no_end tries = refl
sub_no_end reads = refl
sub_no_end logs = refl
sub_no_end computes = refl
sub_no_end serves = refl
sub_no_end passes = refl

sub_answers : (sub : Sub) (words rest : List Text) (leaves : List Row) (asked : Asked) → words ≡ sub_text sub ∷ rest → HasNoEnd rest → Ends (sub_leaf sub) start rest leaves
    → asked_as (sub_text sub) leaves ≡ Some asked → Answers words asked
sub_answers sub words rest leaves asked are no_end e asks =
    let level = level_out (sub_leaf sub) rest leaves (quiet sub) e in
    subst (λ (t : List Text). Answers t asked) (sym are) (record {
      no_end = rw (sub_no_end sub) no_end;
      fault = fault_enters sub rest ∙ level.fault;
      asks = ap asked_by (sub_enters sub rest) ∙ ap (asked_as (sub_text sub)) level.leaves ∙ asks;
    })

rest_said : (values more : List Text) → IsSaid (values ++ more) → IsSaid more
rest_said [] more said = said
rest_said (v ∷ []) [] said = tt
rest_said (v ∷ []) (w ∷ more) said = absurd said
rest_said (v ∷ (w ∷ values)) more said = absurd said

spelled_no_end : (spelling : Spelling) (x : Name) (v : Text) (more : List Text) → is_operand v ≡ true → HasNoEnd more → HasNoEnd (spelled spelling x v ++ more)
spelled_no_end apart policy v more operand no_end = rw ((operand_is v operand).no_end) no_end
spelled_no_end apart limit v more operand no_end = rw ((operand_is v operand).no_end) no_end
spelled_no_end joined policy v more operand no_end = no_end
spelled_no_end joined limit v more operand no_end = no_end

options_no_end : (options : List Given) → Said options → HasNoEnd (options_words options)
options_no_end [] said = refl
options_no_end (g ∷ options) said =
    spelled_no_end g.spelling g.name g.value (options_words options) (first_given g [] options said).operand
    (options_no_end options (λ x. rest_said (if_named x g.name g.value) (values_of x options) (said x)))

said_both : (options : List Given) → IsSaid (values_of policy options) → IsSaid (values_of limit options) → Said options
said_both options p l policy = p
said_both options p l limit = l

judge_asks : (job : Job) (leaves : List Row) (p : Policy) (n : ℕ) → policy_of (first_of (codes "policy") leaves) ≡ Some p → limit_of (first_of (codes "limit") leaves) ≡ Some n
    → judge_of job leaves ≡ Some (Judge job p n)
judge_asks job leaves p n first second = rw (first, second) refl

job_asks : (job : Job) (leaves : List Row) (asked : Asked) → judge_of job leaves ≡ Some asked → asked_as (job_text job) leaves ≡ Some asked
job_asks Filter leaves asked e = e
job_asks Explain leaves asked e = e

-- words that are taken
pub answers : (words : List Text) (asked : Asked) → IsTaken words asked → Answers words asked
answers words (Judge job p n) is =
    let said = said_both is.options (policy_said (values_of policy is.options) p is.says_policy) (limit_said (values_of limit is.options) n is.says_limit) in
    let leaves = rows_of is.options in
    let first = ap policy_of (first_is policy is.options) ∙ policy_reads (values_of policy is.options) p is.says_policy in
    let second = ap limit_of (first_is limit is.options) ∙ limit_reads (values_of limit is.options) n is.says_limit in
    sub_answers (judges job) words (options_words is.options) leaves (Judge job p n) is.are (options_no_end is.options said)
    (spell (job_text job) is.options [] [] None (record { fault = refl; are = refl }) said)
    (job_asks job leaves (Judge job p n) (judge_asks job leaves p n first second))
answers words (Trial seed count) is =
    let a = operand_is is.seed_word (number_operand is.seed_word seed is.writes_seed.written) in
    let b = operand_is is.count_word (number_operand is.count_word count is.writes_count.written) in
    sub_answers tries words (is.seed_word ∷ is.count_word ∷ []) (first_row is.seed_word ∷ second_row is.count_word ∷ []) (Trial seed count) is.are
    (rw (a.no_end, b.no_end) refl)
    (operands_end (codes "trial") is.seed_word is.count_word a b)
    (rw (number_reads 0 MOST_SEED is.seed_word seed is.writes_seed, number_reads 1 MOST_COUNT is.count_word count is.writes_count) refl)
answers words (Mime text) is =
    let a = operand_is text is.operand in
    sub_answers reads words (text ∷ []) (first_row text ∷ []) (Mime text) is.are
    (rw (a.no_end) refl)
    (operand_ends (codes "mime") text a)
    (rw (operand_reads text is.operand) refl)
answers words Har is = sub_answers logs words [] [] Har is refl (word_ends (codes "har")) refl
answers words ComputedType is = sub_answers computes words [] [] ComputedType is refl (word_ends (codes "type")) refl
answers words (Serve address count) is =
    let a = operand_is address is.operand in
    let b = operand_is is.count_word (number_operand is.count_word count is.writes_count.written) in
    sub_answers serves words (address ∷ is.count_word ∷ []) (first_row address ∷ second_row is.count_word ∷ []) (Serve address count) is.are
    (rw (a.no_end, b.no_end) refl)
    (operands_end (codes "serve") address is.count_word a b)
    (rw (operand_reads address is.operand, number_reads 1 MOST_COUNT is.count_word count is.writes_count) refl)
answers words (Proxy address count) is =
    let a = operand_is address is.operand in
    let b = operand_is is.count_word (number_operand is.count_word count is.writes_count.written) in
    sub_answers passes words (address ∷ is.count_word ∷ []) (first_row address ∷ second_row is.count_word ∷ []) (Proxy address count) is.are
    (rw (a.no_end, b.no_end) refl)
    (operands_end (codes "proxy") address is.count_word a b)
    (rw (operand_reads address is.operand, number_reads 1 MOST_COUNT is.count_word count is.writes_count) refl)

-- words ask for one thing
pub one_asked : (words : List Text) (a b : Asked) → IsTaken words a → IsTaken words b → a ≡ b
one_asked words a b first second =
    let x = (answers words a first).asks in
    let y = (answers words b second).asks in cc
