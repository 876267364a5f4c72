pub mod Count
pub mod FrameOf
pub mod Answer
pub mod Numbers
pub mod Demand
pub mod Inner
pub mod Opening
pub mod Searched
