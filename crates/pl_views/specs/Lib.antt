pub mod Below
pub mod CheckViews
pub mod Ready
pub mod RunViews
