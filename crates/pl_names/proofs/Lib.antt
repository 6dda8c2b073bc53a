pub mod Controls
pub mod Fronts
pub mod Pieces
pub mod Printable
pub mod Segments
