pub mod Spans
pub mod Mime
pub mod Records
pub mod Text
pub mod Reading
pub mod Stored
pub mod Sets
