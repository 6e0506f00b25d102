pub mod Rules
pub mod Heads
pub mod Texts
pub mod Tables
pub mod Settled
pub mod Facts
pub mod Reads
