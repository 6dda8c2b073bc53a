pub mod Evaluated
pub mod Leads
pub mod Lists
pub mod Marks
pub mod Trees
