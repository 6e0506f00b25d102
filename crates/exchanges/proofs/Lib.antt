pub mod TableLemmas
pub mod HeadLaws
pub mod BodyLaws
