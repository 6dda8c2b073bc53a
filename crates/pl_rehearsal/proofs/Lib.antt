mod Begun
mod Counted
