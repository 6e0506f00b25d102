use Rattle.std.proofs.Common.{◌≡◌, ℕ, List, Option, Some, bytes_eq, sym, ap, ◌∙◌, option_map}
use Rattle.std.specs.List.{find}
use Rattle.mime_types.specs.declared.parameters.Parameter.{Parameter}
use Rattle.mime_types.specs.Mime.{Mime}
use Rattle.mime_types.specs.Records.{value_of}
use Rattle.mime_types.specs.Stored.{pairs_in, record_in}
use Rattle.mime_types.proofs.RecordLemmas.{value_is_quoted}
use Rattle.mime_types.proofs.StoredLemmas.{value_of_stored}
use Rattle.mime_types.proofs.records.MimeType.parameter.Goals as goal

-- what the fields hold is what the record says
found_is_value : (name main sub : List ℕ) (fields parameters : List Parameter) (m : Mime) (found : Option Parameter)
    → found ≡ find (λ p. bytes_eq p.name.items name) parameters → parameters ≡ fields
    → record_in main sub fields ≡ m → option_map (λ p. p.value.items) found ≡ value_of name m.parameters
found_is_value name main sub fields parameters m found is same view =
    ap (option_map (λ p. p.value.items)) is
    ∙ ap (λ ps. option_map (λ p. p.value.items) (find (λ p. bytes_eq p.name.items name) ps)) same
    ∙ value_of_stored name fields ∙ ap (λ (m : Mime). value_of name m.parameters) view

pub returns-in_err-found-clause-value : goal.returns-in_err-found-clause-value
returns-in_err-found-clause-value c =
    rw c.from_residual.ensures
    (found_is_value c.args.name.now _ _ c.self.inside.parameters.items c.deref.result.now c.args.self.now _
    c.in_err-found.ensures c.deref.ensures.value c.self.view_is)

pub returns-clause-value : goal.returns-clause-value
returns-clause-value c =
    ap Some c.deref-2.ensures.value
    ∙ found_is_value c.args.name.now _ _ c.self.inside.parameters.items c.deref.result.now c.args.self.now (Some c.in_ok-found.found.now)
    c.in_ok-found.ensures c.deref.ensures.value c.self.view_is

pub returns-clause-quoted : goal.returns-clause-quoted
returns-clause-quoted c =
    value_is_quoted c.args.name.now c.deref-2.result.now (pairs_in c.self.inside.parameters.items) c.self.invariant.parameters
    (ap (λ (m : Mime). value_of c.args.name.now m.parameters) c.self.view_is ∙ sym (returns-clause-value c))
