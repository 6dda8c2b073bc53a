pub mod OneCycle
pub mod OneOrder
