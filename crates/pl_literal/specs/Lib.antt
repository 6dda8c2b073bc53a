pub mod Booleans
pub mod Items
pub mod Literal
pub mod Values
