pub mod Marks
pub mod Plan
pub mod Scan
