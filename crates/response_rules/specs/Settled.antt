-- When a rule is settled: by which part of a response it is known for good.
use Rattle.std.specs.Prelude.{◌≡◌, ℕ, Bool, true, false, not, ◌&&◌, ◌||◌, if◌then◌else◌, nat_le, nat_lt, List, length, Option, Some, None, is_none}
use Rattle.std.specs.Option.{option_or}
use Rattle.response_rules.specs.declared.rules.Rule.{Rule}
use Rattle.response_rules.specs.Rules.{Part, at_head, at_window, at_end, settled_by, is_allowing}
use Rattle.response_rules.specs.Heads.{Case}
use Rattle.signatures.specs.Window.{window_size, window_of}
use Rattle.response_rules.specs.Tables.{head_rows, window_rows, first_rule, IsRule, early_rule}

-- so many bytes of the body fill the window
abbrev pub is_full : List ℕ → Bool
is_full prefix = nat_le window_size (length prefix)

-- the part is there, when the body so far is the prefix, or the whole body is
abbrev pub is_there : Part → List ℕ → Bool → Bool
is_there at_head prefix whole = true
is_there at_window prefix whole = whole || is_full prefix
is_there at_end prefix whole = whole

-- the rule decides the response with the prefix as its body, and what settles it is there
pub record IsSettled (h : Case) (decides : Rule) (prefix : List ℕ) (whole : Bool) : Type 0 where
  pub decides_it : IsRule h prefix decides
  pub there : is_there (settled_by decides) prefix whole ≡ true

-- the rule of the head that holds first
unfoldable pub head_rule_of : Case → Option Rule
head_rule_of h = first_rule (head_rows h)

-- the rule of the window that holds first
unfoldable pub rule_in_window : Case → List ℕ → Option Rule
rule_in_window h window = first_rule (window_rows h window)

-- `IsSettled` as a function, for a prefix that needn't be whole
unfoldable pub settled_rule : Case → List ℕ → Option Rule
settled_rule h prefix =
    option_or (head_rule_of h) (if is_full prefix then rule_in_window h (window_of prefix) else None)

-- there is a rule, and it is such a one
abbrev pub is_some_rule : (Rule → Bool) → Option Rule → Bool
is_some_rule test None = false
is_some_rule test (Some decides) = test decides

-- a rule that allows is settled by the prefix
unfoldable pub is_sent : Case → List ℕ → Bool
is_sent h prefix = is_some_rule is_allowing (settled_rule h prefix)

-- a rule that blocks is settled by the prefix
unfoldable pub is_blocked : Case → List ℕ → Bool
is_blocked h prefix = is_some_rule (λ decides. not (is_allowing decides)) (settled_rule h prefix)

-- the window is full, and no rule of the head or the window holds: the body is read as text
unfoldable pub is_in_text : Case → List ℕ → Bool
is_in_text h prefix = is_full prefix && is_none (early_rule h prefix)

-- Nothing can allow the response any more: a rule that blocks is settled, or the body is read as text and is longer
-- than the limit or known to begin no script.
unfoldable pub is_hopeless : Case → List ℕ → (dead : Bool) → Bool
is_hopeless h prefix dead =
    is_blocked h prefix || (is_in_text h prefix && (nat_lt h.limit (length prefix) || dead))
