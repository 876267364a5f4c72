pub mod Marks
pub mod Worst
