pub mod Cutoff
pub mod Writes
pub mod Rows
pub mod Behind
pub mod Form
pub mod Cut
pub mod Cases
