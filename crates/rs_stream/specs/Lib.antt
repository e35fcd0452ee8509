pub mod HeldBytes
pub mod Streams
