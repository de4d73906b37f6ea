pub mod Frames
mod InPlace
pub mod Lengths
mod Pieces
pub mod Reading
pub mod Sealed
mod Migrating
pub mod Stepwise
pub mod Writing
