pub mod Plan
pub mod Answer
pub mod Numbers
pub mod Round
pub mod Cases
