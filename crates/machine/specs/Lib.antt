pub mod Run
pub mod Tick
pub mod Numbers
pub mod Machine
