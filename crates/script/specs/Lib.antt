pub mod Operations
pub mod Lines
pub mod Faults
pub mod Scripts
pub mod Kinds
