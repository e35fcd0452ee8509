pub mod Drawing
pub mod Due
pub mod Ends
pub mod Granting
pub mod Inputs
pub mod Rests
pub mod Sending
pub mod Settling
