use Rattle.std.proofs.Common.{◌≡◌, take, length, get_or, ap, ◌∙◌, subst, ℕ, ◌<◌, arith, false}
use Rattle.std.specs.List.{list_all, prefix_len}
use Rattle.std.proofs.lemmas.List.Sums.{prefix_len-le-length}
use Rattle.text_stream.specs.Runs.{is_in}
use Rattle.text_stream.proofs.RunLemmas.{same_run, run_all, run_stop}
use Rattle.json_recogniser.specs.declared.runs.TheConstants.{TEXT}
use Rattle.json_recogniser.specs.Grammar.{is_unescaped}
use Rattle.json_recogniser.proofs.RunLemmas.{text_table, text_stops}
use Rattle.json_recogniser.proofs.runs.text_length.Goals as goal

run_is : (c : goal.After-run_length) → c.run_length.result ≡ prefix_len is_unescaped c.args.piece.now
run_is c = c.run_length.ensures ∙ same_run (is_in TEXT) is_unescaped c.args.piece.now text_table (λ k. (c.type_inv.piece k).fits)

pub returns-clause-within : goal.returns-clause-within
returns-clause-within c = let few = prefix_len-le-length is_unescaped c.args.piece.now in omega (arith, few, run_is c)

pub returns-clause-plain : goal.returns-clause-plain
returns-clause-plain c = ap (λ n. list_all is_unescaped (take n c.args.piece.now)) (run_is c) ∙ run_all is_unescaped c.args.piece.now

pub returns-clause-ends : goal.returns-clause-ends
returns-clause-ends c = λ less.
    let stop : is_unescaped (get_or c.args.piece.now c.run_length.result 0) ≡ false =
    ap (λ n. is_unescaped (get_or c.args.piece.now n 0)) (run_is c) ∙ run_stop is_unescaped c.args.piece.now (subst (λ (n : ℕ). n < length c.args.piece.now) (run_is c) less) in
    text_stops _ (c.type_inv.piece c.run_length.result).fits stop
