pub mod Approvals
pub mod Branches
pub mod Hours
pub mod Patterns
pub mod Provenance
pub mod Templates
pub mod Verdicts
