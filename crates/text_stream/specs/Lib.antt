pub mod Characters
pub mod Classes
pub mod Decoding
pub mod DecoderStages
pub mod Decoder
pub mod Runs
