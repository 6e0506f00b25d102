-- The reply.
use Rattle.std.proofs.Common.{◌≤◌, [], ◌∷◌, length, arith, length-append}
use Rattle.response_rules.specs.declared.rules.Rule.{Rule}
use Rattle.response_rules.specs.Rules.{name_of}
use Rattle.response_rules.proofs.NameLemmas.{name-short}
use Rattle.body_filter.specs.Reply.{reply_of}

pub reply-short : (r : Rule) → length (reply_of r) ≤ 76
unfolding reply_of
reply-short r = omega (arith, name-short r, length-append (name_of r) (13 ∷ 10 ∷ 13 ∷ 10 ∷ []))
