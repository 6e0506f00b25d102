use Rattle.std.proofs.Common.{rules, tests, ◌∙◌}
use Rattle.std.proofs.lemmas.Iterator.Consumers.{YieldsList-from_first}
use Rattle.std.proofs.lemmas.Iterator.Search.{any_from_yields_List}
use Rattle.header_values.specs.Cuts.{parts_left, parts_of}
use Rattle.header_values.specs.Questions.{is_coding}
use Rattle.header_values.proofs.QuestionLemmas.{coded_by}
use Rattle.header_values.proofs.questions.coded.Goals as goal

pub returns-in-Some-clause-value : goal.returns-in-Some-clause-value
returns-in-Some-clause-value c =
    any_from_yields_List is_coding _ _ _ c.any.ensures.ran
    (YieldsList-from_first (λ part. part.now) parts_left (parts_of c.in-Some.value.now) c.parts.ensures.all)
    (λ x b q k. search (rules, tests))
    ∙ coded_by _ _ c.in-Some.ensures.value
