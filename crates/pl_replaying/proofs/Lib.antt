mod Anew
mod Sessions
mod Whole
