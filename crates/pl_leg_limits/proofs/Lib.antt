mod Keeping
mod Naming
mod Alike
