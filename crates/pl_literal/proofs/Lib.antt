pub mod Texts
pub mod Passing
pub mod Alike
