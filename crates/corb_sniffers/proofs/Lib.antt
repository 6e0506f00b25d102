pub mod SpaceLemmas
pub mod TextLemmas
pub mod JsonLemmas
pub mod CommentLemmas
pub mod TagLemmas
pub mod HtmlLemmas
pub mod RowLemmas
pub mod ValueLemmas
