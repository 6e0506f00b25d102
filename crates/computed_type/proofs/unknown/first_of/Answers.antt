use Rattle.std.proofs.Common.{rules, tests, ◌≡◌, find, sym, ap, ◌∙◌}
use Rattle.std.specs.Option.{option_map, option_and_then}
use Rattle.std.proofs.lemmas.Iterator.{YieldsList-from_slice}
use Rattle.std.proofs.lemmas.Iterator.Search.{find_from_yields_List}
use Rattle.computed_type.specs.Unknown.{first_of}
use Rattle.computed_type.proofs.unknown.first_of.Goals as goal

pub returns-in_err-essence : goal.returns-in_err-essence
unfolding first_of
returns-in_err-essence c =
    let found : option_map (λ rule. rule.now) c.find.result ≡ find (λ rule. rule.0) c.args.rules.now =
    find_from_yields_List (λ rule. rule.0) _ _ _ c.find.ensures.ran (YieldsList-from_slice c.args.rules.now c.iter.ensures.rest)
    (λ x b q k. search (rules, tests)) in
    c.from_residual.ensures ∙ ap (option_and_then (λ rule. rule.1)) (sym (ap (option_map (λ rule. rule.now)) c.in_err-essence.was) ∙ found)

pub returns : goal.returns
unfolding first_of
returns c =
    let found : option_map (λ rule. rule.now) c.find.result ≡ find (λ rule. rule.0) c.args.rules.now =
    find_from_yields_List (λ rule. rule.0) _ _ _ c.find.ensures.ran (YieldsList-from_slice c.args.rules.now c.iter.ensures.rest)
    (λ x b q k. search (rules, tests)) in
    ap (option_and_then (λ rule. rule.1)) (sym (ap (option_map (λ rule. rule.now)) c.in_ok-essence.was) ∙ found)
