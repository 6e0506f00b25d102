pub mod TrimLemmas
pub mod QuotedLemmas
pub mod DecimalLemmas
pub mod HexadecimalLemmas
pub mod RowSetLemmas
pub mod MaskedLemmas
pub mod RowLemmas
pub mod WalkLemmas
