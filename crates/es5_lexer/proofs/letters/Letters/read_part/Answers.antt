use Rattle.std.proofs.Common.{◌≡◌, true, nat_lt, length, ◌∙◌}
use Rattle.es5_lexer.proofs.RunLemmas.{part_letter, room_left}
use Rattle.es5_lexer.proofs.letters.Letters.read_part.Goals as goal

pub returns-then-not-is_full-clause-letters : goal.returns-then-not-is_full-clause-letters
returns-then-not-is_full-clause-letters c =
    let room : nat_lt (length c.args.self.now.letters.items) 11 ≡ true = room_left c.is_full.result _ c.is_full.ensures c.if-not-is_full.true in
    c.push.ensures.items ∙ part_letter c.args.self.now.letters.items c.args.b room c.requires.ascii c.requires.part
