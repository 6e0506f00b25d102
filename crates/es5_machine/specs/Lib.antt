pub mod Classes
pub mod Steps
pub mod Reading
pub mod Scripts
pub mod ScriptReading
pub mod ScriptTests
