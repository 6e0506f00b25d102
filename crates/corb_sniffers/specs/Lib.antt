pub mod Texts
pub mod Html
pub mod HtmlReading
pub mod Xml
pub mod Json
pub mod JsonReading
pub mod Breakers
pub mod Values
