pub mod Block
pub mod Blocks
pub mod Field
pub mod Lanes
pub mod Pairs
pub mod Permutes
pub mod Private
pub mod Round
