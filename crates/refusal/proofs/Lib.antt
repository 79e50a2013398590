pub mod Judging
pub mod Fitting
pub mod Deciding
pub mod Accepting
pub mod Ranges
