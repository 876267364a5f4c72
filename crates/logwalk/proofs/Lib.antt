pub mod Reader
pub mod Here
pub mod Plans
pub mod Steps
pub mod Rows
pub mod Back
pub mod Meaning
pub mod Cases
