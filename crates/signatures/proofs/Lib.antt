pub mod PlaceLemmas
pub mod PatternLemmas
pub mod TableLemmas
pub mod Mp4Lemmas
pub mod WebmLemmas
pub mod MpegLemmas
