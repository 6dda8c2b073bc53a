pub mod Kinds
pub mod Said
