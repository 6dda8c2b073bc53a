pub mod Handing
pub mod Marks
pub mod Trees
