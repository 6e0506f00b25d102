pub mod Characters
pub mod Grammar
pub mod Reading
pub mod Residuals
pub mod Machines
pub mod Runs
pub mod JsonTest
