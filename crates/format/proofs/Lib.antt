pub mod Pieces
pub mod Readings
pub mod Bytes
pub mod Laws
pub mod Loops
pub mod Parts
