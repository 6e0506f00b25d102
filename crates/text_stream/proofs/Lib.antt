pub mod ClassLemmas
mod DecodingLemmas
pub mod DecoderLemmas
pub mod RunLemmas
