pub mod Faults
pub mod Roles
pub mod Maps
pub mod Rules
pub mod Connection
pub mod Agreements
pub mod Certified
pub mod Views
