use Rattle.std.proofs.Common.{◌≡◌, take, ap, ◌∙◌, arith}
use Rattle.std.specs.List.{list_all, prefix_len}
use Rattle.std.proofs.lemmas.List.Sums.{prefix_len-le-length}
use Rattle.text_stream.specs.Runs.{is_in}
use Rattle.text_stream.proofs.RunLemmas.{same_run, run_all}
use Rattle.json_recogniser.specs.declared.runs.TheConstants.{PLAIN}
use Rattle.json_recogniser.specs.Runs.{is_plain}
use Rattle.json_recogniser.proofs.RunLemmas.{plain_table}
use Rattle.json_recogniser.proofs.runs.plain_length.Goals as goal

run_is : (c : goal.After-run_length) → c.run_length.result ≡ prefix_len is_plain c.args.piece.now
run_is c = c.run_length.ensures ∙ same_run (is_in PLAIN) is_plain c.args.piece.now plain_table (λ k. (c.type_inv.piece k).fits)

pub returns-clause-within : goal.returns-clause-within
returns-clause-within c = let few = prefix_len-le-length is_plain c.args.piece.now in omega (arith, few, run_is c)

pub returns-clause-plain : goal.returns-clause-plain
returns-clause-plain c = ap (λ n. list_all is_plain (take n c.args.piece.now)) (run_is c) ∙ run_all is_plain c.args.piece.now
