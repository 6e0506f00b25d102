mod LeftLemmas
mod JsonLemmas
mod Base64Lemmas
mod EachLemmas
mod HeaderLemmas
mod EntriesLemmas
mod KeptLemmas
mod SentLemmas
pub mod RecordingLemmas
