pub mod TableHi
pub mod Runs
