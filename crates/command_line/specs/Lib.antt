pub mod Taken
pub mod Values
pub mod Program
