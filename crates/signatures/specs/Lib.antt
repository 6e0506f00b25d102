pub mod Patterns
pub mod Mp4
pub mod Webm
pub mod Mpeg
pub mod Rows
pub mod Window
