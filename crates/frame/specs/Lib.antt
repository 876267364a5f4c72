pub mod Jobs
pub mod Execution
pub mod Search
pub mod Demand
pub mod TwoLevels
pub mod Cases
