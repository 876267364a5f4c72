pub mod Table
pub mod Late
pub mod Meaning
