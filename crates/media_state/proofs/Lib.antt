pub mod CutLemmas
pub mod RangeLemmas
pub mod TableLemmas
