pub mod Shells
