pub mod PlainTrees
pub mod Steps
