pub mod Blanks
pub mod Closing
pub mod Cuts
pub mod Judging
pub mod Pieces
pub mod Shapes
pub mod Dollars
