pub mod Parts
pub mod Sheets
pub mod Reading
pub mod Verdicts
pub mod Opening
