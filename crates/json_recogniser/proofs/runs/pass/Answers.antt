use Rattle.std.proofs.Common.{◌≡◌, true, take, sym, ap, ◌∙◌, arith}
use Rattle.std.specs.List.{list_all, prefix_len}
use Rattle.std.proofs.lemmas.List.Sums.{prefix_len-le-length}
use Rattle.text_stream.specs.Runs.{is_in}
use Rattle.text_stream.proofs.RunLemmas.{same_run, run_all}
use Rattle.json_recogniser.specs.declared.runs.TheConstants.{SPACES}
use Rattle.json_recogniser.specs.Grammar.{is_white_space}
use Rattle.json_recogniser.proofs.RunLemmas.{space_table, space_ascii, space_run, space_state}
use Rattle.json_recogniser.proofs.runs.pass.Goals as goal

run_is : (c : goal.After-run_length) → c.run_length.result ≡ prefix_len is_white_space c.args.piece.now
run_is c = c.run_length.ensures ∙ same_run (is_in SPACES) is_white_space c.args.piece.now space_table (λ k. (c.type_inv.piece k).fits)

run_spaces : (c : goal.After-run_length) → list_all is_white_space (take c.run_length.result c.args.piece.now) ≡ true
run_spaces c = ap (λ n. list_all is_white_space (take n c.args.piece.now)) (run_is c) ∙ run_all is_white_space c.args.piece.now

pub returns-in-Value-clause-within : goal.returns-in-Value-clause-within
returns-in-Value-clause-within c = let few = prefix_len-le-length is_white_space c.args.piece.now in omega (arith, few, run_is c)

pub returns-in-Value-clause-ascii : goal.returns-in-Value-clause-ascii
returns-in-Value-clause-ascii c = space_ascii (take c.run_length.result c.args.piece.now) (run_spaces c)

pub returns-in-Value-clause-goes : goal.returns-in-Value-clause-goes
returns-in-Value-clause-goes c = λ marks text. sym (space_run c.args.state marks (take c.run_length.result c.args.piece.now) text (space_state c.args.state c.in-Value.is) (run_spaces c))
