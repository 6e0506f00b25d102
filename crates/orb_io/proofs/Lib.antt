pub mod ToldLemmas
pub mod GivesLemmas
pub mod CallLemmas
pub mod LinkLemmas
mod StreamLemmas
