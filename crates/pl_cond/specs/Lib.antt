pub mod Below
pub mod Conditions
pub mod Contexts
pub mod Objects
pub mod Paths
pub mod Placing
pub mod Variables
