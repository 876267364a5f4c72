pub mod Did
pub mod Keeps
pub mod Sound
pub mod Slots
pub mod Shift
pub mod Held
pub mod Entries
pub mod Opened
