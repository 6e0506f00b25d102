use Rattle.std.proofs.Common.{rules, ◌≡◌, true, get_or, sym, ◌∙◌, ap, string_bytes}
use Rattle.std.proofs.lemmas.List.Folds.{list_any_at}
use Rattle.clap.proofs.WalkLemmas.{list_any-map}
use Rattle.command_line.specs.Values.{is_end_of_options}
use Rattle.command_line.proofs.reading.has_end_of_options.Goals as goal

pub returns-then-eq : goal.returns-then-eq
returns-then-eq c =
    let words = c.args.words.now in
    let word = c.word-item.result in
    let here : is_end_of_options (string_bytes word) ≡ true = search rules in
    let at : is_end_of_options (string_bytes (get_or words c.loop-word.word-index word)) ≡ true = ap (λ s. is_end_of_options (string_bytes s)) (sym c.word-item.is) ∙ here in
    sym (sym (list_any-map is_end_of_options string_bytes words)
    ∙ list_any_at (λ s. is_end_of_options (string_bytes s)) words c.loop-word.word-index word c.loop-word-test.true at)
