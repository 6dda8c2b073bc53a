pub mod Lists
pub mod Signs
pub mod Trees
pub mod Whole
