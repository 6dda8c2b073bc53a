mod Commanded
mod Counting
mod Rising
mod Whole
