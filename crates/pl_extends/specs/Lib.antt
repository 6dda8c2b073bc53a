pub mod Extending
pub mod Forms
pub mod Rooting
