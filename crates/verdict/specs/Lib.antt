pub mod Opening
pub mod Verdicts
