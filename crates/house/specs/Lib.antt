pub mod Houses
pub mod Kinds
