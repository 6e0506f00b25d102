use Rattle.std.proofs.Common.{◌≡◌, false, true, ne_eqb, sym, arith}
use Rattle.std.proofs.lemmas.Bool.Decides.{nat_tests}
use Rattle.json_recogniser.specs.declared.states.Role.TheVariants as role
use Rattle.json_recogniser.specs.Grammar.{is_unescaped}
use Rattle.json_recogniser.proofs.ResidualLemmas.{text_ends, text_escape, text_plain, text_control}
use Rattle.json_recogniser.proofs.steps.in_text.Goals as goal

pub returns-in-Name : goal.returns-in-Name
returns-in-Name c = λ marks text. rw (c.stay.ensures, c.if-c-eq34.true) (rw c.in-Name.is (sym (text_ends role.Name marks text)))

pub returns-in-Value : goal.returns-in-Value
returns-in-Value c = λ marks text. rw (c.stay-in-Value.ensures, c.if-c-eq34.true) (rw c.in-Value.is (sym (text_ends role.Value marks text)))

pub returns-then-c-eq92 : goal.returns-then-c-eq92
returns-then-c-eq92 c = λ marks text. rw (c.stay-then-c-eq92.ensures, c.if-c-eq92.true) (sym (text_escape c.args.role marks text))

pub returns-then-c-lt32 : goal.returns-then-c-lt32
returns-then-c-lt32 c = λ marks text.
    let control : is_unescaped c.args.c ≡ false = grind (arith, nat_tests) in
    rw c.stay-then-c-lt32.ensures
    (sym (text_control c.args.role marks c.args.c text (ne_eqb c.args.c 0x22 c.if-c-eq34.false) (ne_eqb c.args.c 0x5C c.if-c-eq92.false) control))

pub returns-else-c-lt32 : goal.returns-else-c-lt32
returns-else-c-lt32 c = λ marks text.
    let range = c.ranges.c.1.1 in
    let plain : is_unescaped c.args.c ≡ true = grind (arith, nat_tests) in
    rw c.stay-else-c-lt32.ensures
    (sym (text_plain c.args.role marks c.args.c text (ne_eqb c.args.c 0x22 c.if-c-eq34.false) (ne_eqb c.args.c 0x5C c.if-c-eq92.false) plain))
