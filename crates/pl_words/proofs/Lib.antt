mod Fronts
mod Numbers
mod Rests
mod Storing
