pub mod Beginning
pub mod Chunk
pub mod Pass
pub mod Private
pub mod SavedContexts
