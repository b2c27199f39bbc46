pub mod Settling
pub mod Certain
pub mod Register
pub mod Adding
pub mod Splitting
pub mod Setting
pub mod Stepping
pub mod Questions
