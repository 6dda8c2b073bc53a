pub mod Asked
pub mod Behind
pub mod Fitting
pub mod Rowed
pub mod Serving
