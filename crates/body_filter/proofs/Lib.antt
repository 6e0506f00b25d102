pub mod ReplyLemmas
pub mod FilterLemmas
pub mod HeldLemmas
pub mod LawLemmas
pub mod OwedLemmas
pub mod PhaseLemmas
pub mod GrowthLemmas
