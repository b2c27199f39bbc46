pub mod Marked
pub mod Reading
pub mod Pass
pub mod Holding
pub mod Carrying
pub mod Walking
pub mod Tallies
pub mod Masks
