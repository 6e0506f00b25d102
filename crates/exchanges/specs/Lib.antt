pub mod Heads
pub mod HeadReads
pub mod Media
