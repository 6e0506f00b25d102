pub mod Reply
pub mod Responses
pub mod Judged
pub mod Reads
pub mod Calls
