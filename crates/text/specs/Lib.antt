pub mod Place
pub mod Hex
pub mod Number
pub mod Slice
