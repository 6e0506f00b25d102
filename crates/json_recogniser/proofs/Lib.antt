mod Completeness
mod Soundness
mod Tools
mod FuelLemmas
mod ResidualLemmas
mod EndLemmas
mod RunLemmas
pub mod JsonTestLemmas
