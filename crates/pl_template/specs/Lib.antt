pub mod Cutting
pub mod Forms
pub mod Laws
pub mod Splitting
pub mod Words
pub mod Keys
