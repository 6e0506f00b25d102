pub mod FieldLemmas
pub mod JoinLemmas
pub mod PartLemmas
pub mod QuestionLemmas
pub mod ExtractLemmas
pub mod RunLemmas
