use Rattle.std.proofs.Common.{sym, ◌∙◌}
use Rattle.header_values.proofs.QuestionLemmas.{nosniff_by}
use Rattle.header_values.proofs.questions.nosniff.Goals as goal

pub returns-in-Some-next-clause-value : goal.returns-in-Some-next-clause-value
returns-in-Some-next-clause-value c =
    c.eq_ignore_case.ensures ∙ nosniff_by _ _ _ c.in-Some.ensures.value (sym c.parts.ensures.all ∙ c.in-Some-next.ensures.steps)

pub returns-in-None-clause-value : goal.returns-in-None-clause-value
returns-in-None-clause-value c =
    nosniff_by _ _ _ c.in-Some.ensures.value (sym c.parts.ensures.all ∙ c.in-None.ensures.steps.0)
