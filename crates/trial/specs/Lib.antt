pub mod Texts
pub mod Trials
pub mod Recorded
