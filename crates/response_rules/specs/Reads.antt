-- What a decider has read of a response.
use Rattle.std.specs.Prelude.{◌≡◌, ℕ, ◌-◌, Bool, false, true, nat_lt, if◌then◌else◌, List, length, Option}
use Rattle.media_state.specs.declared.states.MediaState.{MediaState}
use Rattle.json_recogniser.specs.JsonTest.{HasRead as JsonHasRead}
use Rattle.es5_machine.specs.ScriptTests.{HasRead as ScriptHasRead, is_dead}
use Rattle.es5_machine.specs.declared.script_tests.ScriptTest.{ScriptTest}
use Rattle.response_rules.specs.declared.verdicts.Policy.{Policy}
use Rattle.response_rules.specs.declared.verdicts.Progress.{Progress}
use Rattle.response_rules.specs.declared.verdicts.Progress.TheVariants.{Open, Allowed}
use Rattle.response_rules.specs.declared.verdicts.Verdict.{Verdict}
use Rattle.response_rules.specs.declared.rules.Rule.{Rule}
use Rattle.response_rules.specs.declared.rules.Rule.TheVariants as rule
use Rattle.response_rules.specs.declared.text.TextTest.{TextTest}
use Rattle.response_rules.specs.declared.deciding.Count.{Count}
use Rattle.response_rules.specs.declared.deciding.Decider.{Decider}
use Rattle.response_rules.specs.Rules.{is_allowing, state_after_rule}
use Rattle.response_rules.specs.Heads.{Case, IsCase, length_of}
use Rattle.signatures.specs.Window.{window_of}
use Rattle.response_rules.specs.Tables.{rule_of}
use Rattle.response_rules.specs.Texts.{is_script, is_json}
use Rattle.response_rules.specs.Settled.{settled_rule, is_in_text}
use Rattle.response_rules.specs.Facts.{facts_of}

-- the head of a response that is made of these
abbrev pub case_of : Policy → MediaState → Bool → ℕ → List (List ℕ × List ℕ) → ℕ → Option (List ℕ × List ℕ) → Case
case_of policy state opaque status fields limit essence = record {
  policy = policy;
  state = state;
  opaque = opaque;
  status = status;
  fields = fields;
  essence = essence;
  limit = limit;
}

-- the rule of a body that is a text of at most the limit
abbrev pub text_rule : List ℕ → Rule
text_rule body = if is_script body then (if is_json body then rule.Json else rule.Script) else rule.NotScript

-- both tests have read the bytes; a test of JSON isn't asked where they begin no script
pub record TextHasRead (t : TextTest) (m : List ℕ) : Type 0 where
  pub script : ScriptHasRead t.script m
  pub json : is_dead t.script ≡ false → JsonHasRead t.json m

-- the script test that a decider holds
abbrev pub script_of : Decider → ScriptTest
script_of d = d.text.script

-- and whether that is dead
abbrev pub is_script_dead : Decider → Bool
is_script_dead d = is_dead (script_of d)

-- so many bytes have been counted
pub record HasCounted (c : Count) (limit n : ℕ) : Type 0 where
  pub left : c.left ≡ limit - n
  pub over : c.over ≡ nat_lt limit n

-- it was made for a response with this head, and knows what this prefix of the body settles
pub record Stands (d : Decider) (h : Case) (m : List ℕ) : Type 0 where
  pub states : IsCase h
  pub facts : d.facts ≡ facts_of h
  pub settled : d.settled ≡ settled_rule h m
  pub window : d.window.items ≡ window_of m
  pub active : d.finished ≡ false

-- it has read the body, where that is text and not over the limit
abbrev pub TextStands : Decider → Case → List ℕ → (over : Bool) → Type 0
TextStands d h m over = over ≡ false → is_in_text h m ≡ true → TextHasRead d.text m

-- the decider was made for a response with this head, and has read this prefix of its body
pub record HasRead (d : Decider) (h : Case) (m : List ℕ) : Type 0 where
  pub stands : Stands d h m
  pub counted : HasCounted d.count h.limit (length m)
  pub text : TextStands d h m (nat_lt h.limit (length m))

-- it has read a prefix of a body, and given no verdict yet
pub record CanFinish (d : Decider) : Type 0 where
  pub h : Case
  pub m : List ℕ
  pub reads : HasRead d h m

-- how far the judgement is, by whether the body may be passed on
abbrev pub progress_of : Bool → Progress
progress_of sent = if sent then Allowed else Open

-- the verdict on a response with that whole body
pub record IsVerdict (h : Case) (body : List ℕ) (verdict : Verdict) : Type 0 where
  pub rule : verdict.rule ≡ rule_of h body
  pub allow : verdict.allow ≡ is_allowing verdict.rule
  pub state : verdict.state ≡ state_after_rule h.state verdict.rule (length_of h)
