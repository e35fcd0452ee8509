pub mod Asks
pub mod Consents
pub mod Escapes
pub mod Pages
pub mod Passwords
pub mod Redirects
pub mod Words
