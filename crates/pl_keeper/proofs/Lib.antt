pub mod Tables
pub mod OneRow
pub mod Changing
pub mod Sorting
pub mod KeyOrder
pub mod Short
