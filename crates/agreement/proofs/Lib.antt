pub mod Listings
pub mod Connections
pub mod Certified
