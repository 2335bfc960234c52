pub mod LineRows
pub mod KindTexts
