pub mod States
pub mod Table
pub mod Entries
pub mod Range
