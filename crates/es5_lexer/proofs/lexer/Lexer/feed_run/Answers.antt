use Rattle.std.proofs.Common.{◌∷◌, ◌++◌, [], List, sym, subst, append_assoc}
use Rattle.es5_lexer.specs.Texts.{Mark}
use Rattle.es5_lexer.specs.Lexing.{HasRead}
use Rattle.es5_lexer.proofs.GivenLemmas.{ended_given}
use Rattle.es5_lexer.proofs.lexer.Lexer.feed_run.Goals as goal

pub returns-in-Token-Name-clause-at_least : goal.returns-in-Token-Name-clause-at_least
returns-in-Token-Name-clause-at_least c m given h q last e w end tokens x =
    ended_given c.feed_parts.new.self (m ++ q) last given
    (subst (λ (u : List Mark). HasRead c.feed_parts.new.self u given) (sym (append_assoc m q (last ∷ [])))
    (c.feed_parts.ensures.reads m given h (q ++ last ∷ []) e))
    w end tokens x
