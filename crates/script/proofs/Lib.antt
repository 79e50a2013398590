pub mod Sound
pub mod Passing
