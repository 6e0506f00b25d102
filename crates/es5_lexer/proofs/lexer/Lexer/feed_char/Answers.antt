use Rattle.es5_lexer.specs.Texts.{mark}
use Rattle.es5_lexer.proofs.LexerLemmas.{reads_on, asks_char}
use Rattle.es5_lexer.proofs.GivenLemmas.{ended_given}
use Rattle.es5_lexer.proofs.lexer.Lexer.feed_char.Goals as goal

pub returns-clause-reads : goal.returns-clause-reads
returns-clause-reads c m given h =
    let e = c.step-given.ensures in
    reads_on c.args.self.now _ m given c.give.new.out.items c.args.goal c.args.c c.step-given.result.given h e.steps e.leads c.give.ensures c.follow.ensures

pub returns-clause-at_least : goal.returns-clause-at_least
returns-clause-at_least c m given h w end tokens x =
    let e = c.step-given.ensures in
    ended_given _ m (mark c.args.goal c.args.c) _
    (reads_on c.args.self.now _ m given c.give.new.out.items c.args.goal c.args.c c.step-given.result.given h e.steps e.leads c.give.ensures c.follow.ensures)
    w end tokens x

pub returns-clause-asks : goal.returns-clause-asks
returns-clause-asks c m given h other w end tokens l suited =
    asks_char c.args.self.now m given c.args.goal c.args.c h other w end tokens l suited
