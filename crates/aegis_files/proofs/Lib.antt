pub mod Cutting
mod Damaging
pub mod Files
pub mod Filling
pub mod NextRecord
pub mod OneFile
pub mod PieceLaws
pub mod Pieces
pub mod Ranges
pub mod Reaching
pub mod Rekeying
pub mod Sealing
