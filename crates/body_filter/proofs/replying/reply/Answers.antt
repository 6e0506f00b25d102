use Rattle.std.proofs.Common.{refl, arith, lit<}
use Rattle.body_filter.specs.Reply.{reply_of}
use Rattle.body_filter.proofs.replying.reply.Goals as goal

pub extend-requires-2 : goal.extend-requires-2
extend-requires-2 c =
    (lit< tt, rw (c.extend.ensures, c.new-text.ensures) (omega (arith, c.name.ensures.short)))

pub extend-requires-3 : goal.extend-requires-3
extend-requires-3 c =
    (lit< tt, rw (c.extend-2.ensures, c.extend.ensures, c.new-text.ensures) (omega (arith, c.name.ensures.short)))

pub returns : goal.returns
unfolding reply_of
returns c =
    rw (c.extend-3.ensures, c.extend-2.ensures, c.extend.ensures, c.new-text.ensures, c.name.ensures.value) refl
