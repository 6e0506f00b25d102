use Rattle.std.proofs.Common.{◌≡◌, List, [], ◌∷◌, ◌++◌, sym, ap, subst, ◌∙◌, append_assoc}
use Rattle.std.specs.List.{prefix_len}
use Rattle.text_stream.specs.Runs.{is_in}
use Rattle.text_stream.proofs.RunLemmas.{same_run}
use Rattle.es5_lexer.specs.Texts.{Mark}
use Rattle.es5_lexer.specs.Lexing.{HasRead}
use Rattle.es5_lexer.specs.Runs.{stays}
use Rattle.es5_lexer.proofs.GivenLemmas.{ended_given}
use Rattle.es5_lexer.proofs.RunLemmas.{run_reads, run_asks, run_stays, run_ascii, run_within}
use Rattle.es5_lexer.proofs.lexer.Lexer.run_length.Goals as goal

run_is : (c : goal.After-run_length) → c.run_length.result ≡ prefix_len (stays c.args.self.now.state c.is_full.result) c.args.piece.now
run_is c =
    c.run_length.ensures
    ∙ same_run (is_in c.staying.result.now) (stays c.args.self.now.state c.is_full.result) c.args.piece.now c.staying.ensures (λ k. (c.type_inv.piece k).fits)

pub returns-clause-longest : goal.returns-clause-longest
returns-clause-longest c =
    run_is c ∙ ap (λ f. prefix_len (stays c.args.self.now.state f) c.args.piece.now) c.is_full.ensures

pub returns-clause-within : goal.returns-clause-within
returns-clause-within c = run_within _ _ c.args.piece.now c.run_length.result (run_is c)

pub returns-clause-ascii : goal.returns-clause-ascii
returns-clause-ascii c = run_ascii _ _ c.args.piece.now c.run_length.result (run_is c)

pub returns-clause-reads : goal.returns-clause-reads
returns-clause-reads c m given h q e =
    run_reads c.args.self.now given c.is_full.result c.is_full.ensures q m (run_stays _ _ c.args.piece.now _ c.run_length.result (run_is c) e) h

pub returns-clause-at_least : goal.returns-clause-at_least
returns-clause-at_least c m given h q last e w end tokens x =
    ended_given c.args.self.now (m ++ q) last given
    (subst (λ (u : List Mark). HasRead c.args.self.now u given) (sym (append_assoc m q (last ∷ [])))
    (run_reads c.args.self.now given c.is_full.result c.is_full.ensures (q ++ last ∷ []) m
    (run_stays _ _ c.args.piece.now _ c.run_length.result (run_is c) e) h))
    w end tokens x

pub returns-clause-asks : goal.returns-clause-asks
returns-clause-asks c m given h p q w d e end tokens l =
    run_asks c.args.self.now given c.is_full.result c.is_full.ensures p q w m (d ∙ sym e)
    (run_stays _ _ c.args.piece.now _ c.run_length.result (run_is c) e) h end tokens l
