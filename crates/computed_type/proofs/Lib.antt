mod RuleLemmas
mod PlainLemmas
mod ComputedLemmas
mod WritingLemmas
mod InputLemmas
mod RunLemmas
pub mod AnswerLemmas
