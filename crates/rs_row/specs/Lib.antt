pub mod RowTexts
pub mod RowFields
pub mod RowOpenings
