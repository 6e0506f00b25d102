pub mod Examples
pub mod ChainLemmas
