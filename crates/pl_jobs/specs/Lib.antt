pub mod Below
pub mod Granting
pub mod Reports
