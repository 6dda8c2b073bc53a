mod Again
mod Found
mod One
