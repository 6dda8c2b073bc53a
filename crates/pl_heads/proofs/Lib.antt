pub mod LineLemmas
pub mod HeadLemmas
pub mod ManyLines
pub mod Tallies
pub mod FrontLemmas
pub mod FieldLemmas
pub mod Covered
