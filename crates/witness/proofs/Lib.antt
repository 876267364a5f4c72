pub mod Filled
pub mod Again
pub mod TwoNeeds
pub mod Night
pub mod Cases
