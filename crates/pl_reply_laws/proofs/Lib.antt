mod Compiled
mod Desks
mod Wanted
mod Written
