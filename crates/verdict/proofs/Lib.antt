pub mod Over
pub mod Scripts
