pub mod Leading
pub mod Following
pub mod Opening
