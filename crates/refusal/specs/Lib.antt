pub mod Judging
pub mod Sides
pub mod Texts
