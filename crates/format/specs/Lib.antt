pub mod Formats
pub mod Faults
