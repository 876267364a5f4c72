pub mod Needs
pub mod Night
