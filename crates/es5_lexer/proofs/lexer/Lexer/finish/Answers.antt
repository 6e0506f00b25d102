use Rattle.es5_lexer.proofs.LexerLemmas.{asks_end, end_gives, end_exact}
use Rattle.es5_lexer.proofs.lexer.Lexer.finish.Goals as goal

pub returns-clause-gives : goal.returns-clause-gives
returns-clause-gives c m given h whole =
    let e = c.end-whole.ensures in
    end_gives c.args.self.now m given c.give.new.out.items c.args.goal c.end-whole.result.0 c.end-whole.result.1 e.ends e.kind c.give.ensures h whole

pub returns-clause-exact : goal.returns-clause-exact
returns-clause-exact c m given tokens h l =
    let e = c.end-whole.ensures in
    end_exact c.args.self.now m given c.give.new.out.items tokens c.args.goal c.end-whole.result.0 c.end-whole.result.1 e.ends e.kind c.give.ensures h l

pub returns-clause-asks : goal.returns-clause-asks
returns-clause-asks c m given h other tokens l suited =
    asks_end c.args.self.now m given c.args.goal h other tokens l suited
