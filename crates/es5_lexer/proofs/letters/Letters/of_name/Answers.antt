use Rattle.std.proofs.Common.{◌≡◌, ℕ, ◌-◌, List, [], length, take, drop, subst, sym, arith}
use Rattle.std.proofs.lemmas.List.{nil_from_length}
use Rattle.es5_lexer.specs.Names.{IsName}
use Rattle.es5_lexer.specs.declared.tokens.Goal.TheVariants.{Div}
use Rattle.es5_lexer.proofs.ListLemmas.{first_of}
use Rattle.es5_lexer.proofs.LetterLemmas.{NameFrom, name_begins, name_goes, name_ends}
use Rattle.es5_lexer.proofs.letters.Letters.of_name.Goals as goal

pub name-init : goal.name-init
name-init c =
    let e = c.begin.ensures in
    let whole = first_of c.args.text.now c.first-item.result c.in-len1-up.len_at_least c.first-item.is in
    subst (λ (w : List ℕ). NameFrom c.begin.new.self c.first-place.result (take (length c.args.text.now - 1) (drop 1 c.args.text.now)) w) (sym whole)
    (name_begins c.begin.new.self Div c.first-item.result c.first-place.result _ (record { letters = e.letters; escapes = e.escapes }) c.first-place.ensures (subst IsName whole c.requires))

pub name-preserved : goal.name-preserved
name-preserved c =
    let e = c.read.ensures in
    let whole = first_of c.name.rest.now c.c-item.result c.in-len1-up-rest.len_at_least c.c-item.is in
    name_goes c.name.letters c.read.new.self c.name.place c.next-place.result c.c-item.result _ _ (subst (λ (w : List ℕ). NameFrom c.name.letters c.name.place w c.args.text.now) whole c.name.invariant) (record { letters = e.letters; escapes = e.escapes }) c.next-place.ensures

pub returns : goal.returns
returns c =
    let none : c.name.rest.now ≡ [] = nil_from_length c.name.rest.now (omega arith) in
    name_ends c.name.letters c.name.place c.args.text.now
    (subst (λ (w : List ℕ). NameFrom c.name.letters c.name.place w c.args.text.now) none c.name.invariant)
