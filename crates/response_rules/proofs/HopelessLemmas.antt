-- What is read as text, and what can't be allowed any more.
use Rattle.std.proofs.Common.{◌≡◌, ℕ, ◌<◌, Bool, true, false, ◌&&◌, ◌||◌, List, [], ◌++◌, length, length-append, nat_lt, Option, Some, None, is_none, refl, sym, ap, ◌∙◌, arith}
use Rattle.std.proofs.lemmas.Bool.Decides.{nat_tests}
use Rattle.std.proofs.lemmas.List.{append-nil}
use Rattle.es5_machine.specs.ScriptTests.{HasRead as ScriptHasRead, is_dead}
use Rattle.es5_machine.specs.declared.script_tests.ScriptTest.{ScriptTest}
use Rattle.es5_machine.proofs.ScriptTestLemmas.{lost}
use Rattle.response_rules.specs.declared.rules.Rule.{Rule}
use Rattle.response_rules.specs.declared.deciding.Decider.{Decider}
use Rattle.response_rules.specs.Rules.{is_allowing}
use Rattle.response_rules.specs.Heads.{Case}
use Rattle.response_rules.specs.Texts.{is_script}
use Rattle.signatures.specs.Window.{window_size}
use Rattle.response_rules.specs.Tables.{early_rule, rule_of}
use Rattle.response_rules.specs.Settled.{is_full, is_some_rule, is_sent, is_blocked, is_in_text, is_hopeless, rule_in_window, head_rule_of}
use Rattle.std.specs.Option.{option_or}
use Rattle.response_rules.specs.Reads.{HasRead, is_script_dead}
use Rattle.response_rules.proofs.TableLemmas.{early-halves}
use Rattle.response_rules.proofs.TextLemmas.{no_script, no_script_blocks, over_blocks}
use Rattle.response_rules.proofs.SettledLemmas.{full_longer, window_longer, settled-whole, blocked-longer, blocked-blocks, blocked-unsent, open-short}

and_left : (a b : Bool) → (a && b) ≡ true → a ≡ true
and_left true b h = refl
and_left false b h = absurd (cc h)

and_right : (a b : Bool) → (a && b) ≡ true → b ≡ true
and_right true b h = h
and_right false b h = absurd (cc h)

and_both : (a b : Bool) → a ≡ true → b ≡ true → (a && b) ≡ true
and_both true b e h = h
and_both false b e h = absurd (cc e)

is_none_of : (o : Option Rule) → is_none o ≡ true → o ≡ None
is_none_of None is = refl
is_none_of (Some r) is = absurd (cc is)

-- text is text by a full window that doesn't decide
pub text_full : (h : Case) (m : List ℕ) → is_in_text h m ≡ true → is_full m ≡ true
unfolding is_in_text
text_full h m is = and_left (is_full m) (is_none (early_rule h m)) is

pub text_undecided : (h : Case) (m : List ℕ) → is_in_text h m ≡ true → early_rule h m ≡ None
unfolding is_in_text
text_undecided h m is = is_none_of (early_rule h m) (and_right (is_full m) (is_none (early_rule h m)) is)

pub is_text : (h : Case) (m : List ℕ) → is_full m ≡ true → early_rule h m ≡ None → is_in_text h m ≡ true
unfolding is_in_text
is_text h m full none = and_both (is_full m) (is_none (early_rule h m)) full (ap is_none none)

-- a full window decides for good
pub early-longer : (h : Case) (m more : List ℕ) → is_full m ≡ true → early_rule h (m ++ more) ≡ early_rule h m
early-longer h m more full =
    early-halves h (m ++ more)
    ∙ ap (λ w. option_or (head_rule_of h) (rule_in_window h w)) (window_longer m more full)
    ∙ sym (early-halves h m)

pub text-longer : (h : Case) (m more : List ℕ) → is_in_text h m ≡ true → is_in_text h (m ++ more) ≡ true
text-longer h m more is =
    let full = text_full h m is in
    is_text h (m ++ more) (full_longer m more full) (early-longer h m more full ∙ text_undecided h m is)

pub text-unsent : (h : Case) (m : List ℕ) → is_in_text h m ≡ true → is_sent h m ≡ false
unfolding is_sent
text-unsent h m is = ap (is_some_rule is_allowing) (settled-whole h m (text_full h m is) ∙ text_undecided h m is)

-- what may hold of a hopeless response
data Ways (h : Case) (m : List ℕ) (dead : Bool) : Type 0 where
  by_rule : is_blocked h m ≡ true → Ways h m dead
  by_limit : is_in_text h m ≡ true → nat_lt h.limit (length m) ≡ true → Ways h m dead
  by_death : is_in_text h m ≡ true → dead ≡ true → Ways h m dead

ways : (h : Case) (m : List ℕ) (dead : Bool) → is_hopeless h m dead ≡ true → Ways h m dead
unfolding is_hopeless
ways h m dead is = by (is_blocked h m) (is_in_text h m) (nat_lt h.limit (length m)) dead refl refl refl refl is
  where
    by : (b t o d : Bool) → is_blocked h m ≡ b → is_in_text h m ≡ t → nat_lt h.limit (length m) ≡ o → dead ≡ d
        → (b || (t && (o || d))) ≡ true → Ways h m dead
    by true t o d eb et eo ed e = by_rule eb
    by false true true d eb et eo ed e = by_limit et eo
    by false true false true eb et eo ed e = by_death et ed
    by false true false false eb et eo ed e = absurd (cc e)
    by false false o d eb et eo ed e = absurd (cc e)

or_first : (b c : Bool) → b ≡ true → (b || c) ≡ true
or_first true c is = refl
or_first false c is = absurd (cc is)

or_second : (b c : Bool) → c ≡ true → (b || c) ≡ true
or_second true c is = refl
or_second false c is = is

hopeless_by_rule : (h : Case) (m : List ℕ) (dead : Bool) → is_blocked h m ≡ true → is_hopeless h m dead ≡ true
unfolding is_hopeless
hopeless_by_rule h m dead is = or_first (is_blocked h m) (is_in_text h m && (nat_lt h.limit (length m) || dead)) is

hopeless_by_text : (h : Case) (m : List ℕ) (dead : Bool) → is_in_text h m ≡ true → (nat_lt h.limit (length m) || dead) ≡ true → is_hopeless h m dead ≡ true
unfolding is_hopeless
hopeless_by_text h m dead text is =
    or_second (is_blocked h m) (is_in_text h m && (nat_lt h.limit (length m) || dead))
    (and_both (is_in_text h m) (nat_lt h.limit (length m) || dead) text is)

over-longer : (limit : ℕ) (m more : List ℕ) → nat_lt limit (length m) ≡ true → nat_lt limit (length (m ++ more)) ≡ true
over-longer limit m more is = grind (arith, nat_tests, length-append m more, is)

pub hopeless-longer : (h : Case) (m more : List ℕ) (dead dead' : Bool) → (dead ≡ true → dead' ≡ true) → is_hopeless h m dead ≡ true
    → is_hopeless h (m ++ more) dead' ≡ true
hopeless-longer h m more dead dead' stays is = by (ways h m dead is)
  where
    by : Ways h m dead → is_hopeless h (m ++ more) dead' ≡ true
    by (by_rule b) = hopeless_by_rule h (m ++ more) dead' (blocked-longer h m more b)
    by (by_limit t o) =
        hopeless_by_text h (m ++ more) dead' (text-longer h m more t)
        (or_first (nat_lt h.limit (length (m ++ more))) dead' (over-longer h.limit m more o))
    by (by_death t d) =
        hopeless_by_text h (m ++ more) dead' (text-longer h m more t)
        (or_second (nat_lt h.limit (length (m ++ more))) dead' (stays d))

-- before the window is full, only a rule makes it so
pub hopeless-filled : (h : Case) (m more : List ℕ) (dead dead' : Bool) → is_full m ≡ false → is_hopeless h m dead ≡ true
    → is_hopeless h (m ++ more) dead' ≡ true
hopeless-filled h m more dead dead' short is = by (ways h m dead is)
  where
    by : Ways h m dead → is_hopeless h (m ++ more) dead' ≡ true
    by (by_rule b) = hopeless_by_rule h (m ++ more) dead' (blocked-longer h m more b)
    by (by_limit t o) = absurd (cc (text_full h m t, short))
    by (by_death t d) = absurd (cc (text_full h m t, short))

pub hopeless-unsent : (h : Case) (m : List ℕ) (dead : Bool) → is_hopeless h m dead ≡ true → is_sent h m ≡ false
hopeless-unsent h m dead is = by (ways h m dead is)
  where
    by : Ways h m dead → is_sent h m ≡ false
    by (by_rule b) = blocked-unsent h m b
    by (by_limit t o) = text-unsent h m t
    by (by_death t d) = text-unsent h m t

-- a dead test has read what begins no script
pub never_script : (t : ScriptTest) (m more : List ℕ) → ScriptHasRead t m → is_dead t ≡ true → is_script (m ++ more) ≡ false
never_script t m more reads dead = no_script (m ++ more) (lost t m more reads dead)

-- so a test of a script is alive
pub alive_script : (t : ScriptTest) (m : List ℕ) → ScriptHasRead t m → is_script m ≡ true → is_dead t ≡ false
alive_script t m reads is = by (is_dead t) refl
  where
    by : (b : Bool) → is_dead t ≡ b → b ≡ false
    by true dead = absurd (cc (never_script t m [] reads dead, ap is_script (append-nil m), is))
    by false alive = refl

-- what the script test of a decider has read
pub text_read : (d : Decider) (h : Case) (m : List ℕ) → HasRead d h m → is_in_text h m ≡ true → nat_lt h.limit (length m) ≡ false
    → ScriptHasRead d.text.script m
text_read d h m reads text within = (reads.text within text).script

pub hopeless-blocks : (d : Decider) (h : Case) (m more : List ℕ) → HasRead d h m → is_hopeless h m (is_script_dead d) ≡ true
    → is_allowing (rule_of h (m ++ more)) ≡ false
hopeless-blocks d h m more reads is = by (ways h m (is_script_dead d) is)
  where
    undecided : is_in_text h m ≡ true → early_rule h (m ++ more) ≡ None
    undecided t = early-longer h m more (text_full h m t) ∙ text_undecided h m t

    by_limit_or : (o : Bool) → nat_lt h.limit (length m) ≡ o → is_in_text h m ≡ true → is_script_dead d ≡ true → is_allowing (rule_of h (m ++ more)) ≡ false
    by_limit_or true over t dead = over_blocks h (m ++ more) (undecided t) (over-longer h.limit m more over)
    by_limit_or false within t dead =
        no_script_blocks h (m ++ more) (undecided t) (never_script d.text.script m more (text_read d h m reads t within) dead)

    by : Ways h m (is_script_dead d) → is_allowing (rule_of h (m ++ more)) ≡ false
    by (by_rule b) = blocked-blocks h m more b
    by (by_limit t o) = over_blocks h (m ++ more) (undecided t) (over-longer h.limit m more o)
    by (by_death t dead) = by_limit_or (nat_lt h.limit (length m)) refl t dead

unblocked : (h : Case) (m : List ℕ) (dead : Bool) → is_hopeless h m dead ≡ false → is_blocked h m ≡ false
unfolding is_hopeless
unblocked h m dead is = by (is_blocked h m) is
  where
    by : (b : Bool) → (b || (is_in_text h m && (nat_lt h.limit (length m) || dead))) ≡ false → b ≡ false
    by true e = e
    by false e = refl

pub hopeful-short : (h : Case) (m : List ℕ) (dead : Bool) → is_sent h m ≡ false → is_hopeless h m dead ≡ false → is_in_text h m ≡ false
    → length m < window_size
hopeful-short h m dead unsent hopeful untext = open-short h m unsent (unblocked h m dead hopeful) untext
