pub mod Alike
pub mod Complete
pub mod Deeper
pub mod Numbers
pub mod Onward
pub mod Places
pub mod Texts
pub mod Within
