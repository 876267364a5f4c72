pub mod Tested
pub mod Rows
pub mod Steps
pub mod Edges
pub mod Accepted
pub mod Pigeons
pub mod Cycle
pub mod Front
