pub mod Sound
pub mod Laws
pub mod Padding
pub mod Steps
pub mod Alone
pub mod Unhoused
