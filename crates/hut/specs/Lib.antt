pub mod Answer
pub mod Calls
pub mod Why
pub mod Log
