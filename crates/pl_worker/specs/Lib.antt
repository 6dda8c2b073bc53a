pub mod Chain
pub mod Crew
pub mod Ends
pub mod Works
