pub mod Operations
pub mod Places
pub mod Faults
pub mod Steps
pub mod Types
pub mod Calls
pub mod Openings
pub mod Secrets
