-- The words of a command line, without the program's own name, and what they ask for. Options and operands are those of
-- POSIX (XBD 12.1); the options have long names, as in the GNU C Library's manual (25.1.1).
use Rattle.std.specs.Prelude.{◌≡◌, ◌≤◌, ℕ, Bool, true, ◌==◌, List, [], ◌∷◌, ◌++◌, Some, codes, not, IsTrue, ⊤}
use Rattle.orb_bytes.specs.Ascii.{hyphen_minus, equals_sign}
use Rattle.orb_bytes.specs.Decimal.{decimal_of}
use Rattle.command_line.specs.declared.asked.Command.{Command}
use Rattle.command_line.specs.declared.asked.Command.TheVariants as commands
use Rattle.command_line.specs.declared.asked.Job.{Job}
use Rattle.command_line.specs.declared.asked.Job.TheVariants.{Filter, Explain}
use Rattle.command_line.specs.declared.asked.Policy.{Policy}
use Rattle.command_line.specs.declared.asked.Policy.TheVariants.{Orb, Corb}
use Rattle.command_line.specs.declared.numbers.TheConstants.{LEAST_LIMIT, MOST_LIMIT, DEFAULT_LIMIT, MOST_SEED, MOST_COUNT}

abbrev pub Text : Type 0
Text = List ℕ

-- what words ask for: a recording is judged, a made-up one is, a MIME type is read, a HAR log is judged, the type of a
-- response is computed, connections are served, or passed on
pub data Asked : Type 0 where
  Judge : (job : Job) (policy : Policy) (limit : ℕ) → Asked
  Trial : (seed count : ℕ) → Asked
  Mime : Text → Asked
  Har : Asked
  ComputedType : Asked
  Serve : (address : Text) (count : ℕ) → Asked
  Proxy : (address : Text) (count : ℕ) → Asked

-- the same, as a command says it
abbrev pub asked_of : Command → Asked
asked_of (commands.Judge job policy limit) = Judge job policy limit
asked_of (commands.Trial seed count) = Trial seed count
asked_of (commands.Mime text) = Mime text.now
asked_of commands.Har = Har
asked_of commands.Type = ComputedType
asked_of (commands.Serve address count) = Serve address.now count
asked_of (commands.Proxy address count) = Proxy address.now count

-- the options of a job
pub data Name : Type 0 where
  policy : Name
  limit : Name

abbrev pub name_text : Name → Text
name_text policy = codes "policy"
name_text limit = codes "limit"

-- the value stands in a word of its own, as in `--name VALUE`, or in the same word, as in `--name=VALUE`
pub data Spelling : Type 0 where
  apart : Spelling
  joined : Spelling

-- an option that is given
pub record Given : Type 0 where
  pub name : Name
  pub value : Text
  pub spelling : Spelling

abbrev pub option_word : Name → Text
option_word name = codes "--" ++ name_text name

abbrev pub spelled : Spelling → Name → Text → List Text
spelled apart name value = option_word name ∷ value ∷ []
spelled joined name value = (option_word name ++ equals_sign ∷ value) ∷ []

abbrev pub options_words : List Given → List Text
options_words [] = []
options_words (g ∷ options) = spelled g.spelling g.name g.value ++ options_words options

-- the value, where it is given to the name
abbrev pub if_named : Name → Name → Text → List Text
if_named policy policy value = value ∷ []
if_named limit limit value = value ∷ []
if_named _ _ value = []

-- the values that are given to the name, in order
abbrev pub values_of : Name → List Given → List Text
values_of name [] = []
values_of name (g ∷ options) = if_named name g.name g.value ++ values_of name options

abbrev pub policy_text : Policy → Text
policy_text Orb = codes "orb"
policy_text Corb = codes "corb"

-- the policy is given at most once
abbrev pub IsPolicy : List Text → Policy → Type 0
IsPolicy [] p = p ≡ Orb
IsPolicy (value ∷ []) p = value ≡ policy_text p
IsPolicy (value ∷ (again ∷ more)) p = ⊥

-- the word writes the number in 1 to 19 ASCII digits
pub record IsNumber (least most : ℕ) (word : Text) (n : ℕ) : Type 0 where
  pub written : decimal_of word ≡ Some n
  pub at_least : least ≤ n
  pub at_most : n ≤ most

-- the limit is given at most once
abbrev pub IsLimit : List Text → ℕ → Type 0
IsLimit [] n = n ≡ DEFAULT_LIMIT
IsLimit (value ∷ []) n = IsNumber LEAST_LIMIT MOST_LIMIT value n
IsLimit (value ∷ (again ∷ more)) n = ⊥

abbrev pub job_text : Job → Text
job_text Filter = codes "filter"
job_text Explain = codes "explain"

-- the name of a job, and options in any order
pub record IsJudge (words : List Text) (job : Job) (p : Policy) (n : ℕ) : Type 0 where
  pub options : List Given
  pub are : words ≡ job_text job ∷ options_words options
  pub says_policy : IsPolicy (values_of policy options) p
  pub says_limit : IsLimit (values_of limit options) n

-- `trial SEED COUNT`
pub record IsTrial (words : List Text) (seed count : ℕ) : Type 0 where
  pub seed_word : Text
  pub count_word : Text
  pub are : words ≡ codes "trial" ∷ seed_word ∷ count_word ∷ []
  pub writes_seed : IsNumber 0 MOST_SEED seed_word seed
  pub writes_count : IsNumber 1 MOST_COUNT count_word count

-- an operand doesn't begin with `-`
abbrev pub is_operand : Text → Bool
is_operand [] = true
is_operand (b ∷ text) = not (b == hyphen_minus)

-- `mime TEXT`
pub record IsMime (words : List Text) (text : Text) : Type 0 where
  pub are : words ≡ codes "mime" ∷ text ∷ []
  pub operand : IsTrue (is_operand text)

-- `NAME ADDRESS COUNT`
pub record IsListening (name : Text) (words : List Text) (address : Text) (count : ℕ) : Type 0 where
  pub count_word : Text
  pub are : words ≡ name ∷ address ∷ count_word ∷ []
  pub operand : IsTrue (is_operand address)
  pub writes_count : IsNumber 1 MOST_COUNT count_word count

-- the words ask for this
abbrev pub IsTaken : List Text → Asked → Type 0
IsTaken words (Judge job p n) = IsJudge words job p n
IsTaken words (Trial seed count) = IsTrial words seed count
IsTaken words (Mime text) = IsMime words text
IsTaken words Har = words ≡ codes "har" ∷ []
IsTaken words ComputedType = words ≡ codes "type" ∷ []
IsTaken words (Serve address count) = IsListening (codes "serve") words address count
IsTaken words (Proxy address count) = IsListening (codes "proxy") words address count

-- the numbers lie in their ranges
abbrev pub IsInRange : Asked → Type 0
IsInRange (Judge job p n) = (LEAST_LIMIT ≤ n) × (n ≤ MOST_LIMIT)
IsInRange (Trial seed count) = (seed ≤ MOST_SEED) × (1 ≤ count) × (count ≤ MOST_COUNT)
IsInRange (Mime text) = ⊤
IsInRange Har = ⊤
IsInRange ComputedType = ⊤
IsInRange (Serve address count) = (1 ≤ count) × (count ≤ MOST_COUNT)
IsInRange (Proxy address count) = (1 ≤ count) × (count ≤ MOST_COUNT)
