pub mod Fields
pub mod Cycle
pub mod Answer
pub mod Numbers
pub mod Accepted
