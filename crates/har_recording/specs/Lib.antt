pub mod Log
pub mod Recorded
pub mod Seen
pub mod Whole
