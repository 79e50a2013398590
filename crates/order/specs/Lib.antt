pub mod Orders
pub mod Bounds
pub mod Search
