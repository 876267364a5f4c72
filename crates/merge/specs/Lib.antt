pub mod Lent
pub mod Build
pub mod Numbers
pub mod Meaning
pub mod Cases
