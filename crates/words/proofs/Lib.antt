pub mod Passing
pub mod Evenness
pub mod Generating
