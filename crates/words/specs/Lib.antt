pub mod Source
pub mod Drawing
pub mod ListedLaws
pub mod Listed
pub mod Tape
pub mod States
pub mod StateLaws
pub mod ParkMiller
