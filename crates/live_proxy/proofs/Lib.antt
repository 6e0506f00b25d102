mod TargetLemmas
mod LineLemmas
mod PrepareLemmas
mod HearLemmas
mod GatherLemmas
pub mod RelayLemmas
pub mod PullLemmas
pub mod AnswerLemmas
pub mod ResponseLaws
