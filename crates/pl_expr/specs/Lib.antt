pub mod Conversions
pub mod Functions
pub mod Given
pub mod Grammar
pub mod Numerals
pub mod Parsing
pub mod Spelling
pub mod Trees
