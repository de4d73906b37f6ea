pub mod Answer
pub mod Private
