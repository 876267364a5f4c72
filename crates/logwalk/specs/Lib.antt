pub mod Walk
pub mod Answer
pub mod Numbers
pub mod Back
pub mod Cases
