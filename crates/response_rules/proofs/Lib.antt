pub mod NameLemmas
pub mod TableLemmas
pub mod SettledLemmas
pub mod EssenceLemmas
pub mod ReadLemmas
pub mod TextLemmas
pub mod HopelessLemmas
