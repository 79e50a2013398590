pub mod Suprema
pub mod Searches
