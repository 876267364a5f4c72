pub mod Facts
pub mod Ticks
pub mod Book
pub mod Steps
