pub mod Lowering
pub mod Accepting
pub mod Rereading
pub mod Running
