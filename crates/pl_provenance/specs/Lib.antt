pub mod Below
pub mod Closure
pub mod Known
pub mod Reader
pub mod Roots
pub mod Texts
pub mod Written
