pub mod Digits
pub mod Counting
pub mod Copying
pub mod Slices
pub mod Back
