-- Laws; the rooms above cite Unique.
pub mod Bounds
pub mod Finding
pub mod Collecting
pub mod Counting
pub mod Rows
pub mod Steps
pub mod Turns
pub mod Result
pub mod Whole
pub mod Unique
