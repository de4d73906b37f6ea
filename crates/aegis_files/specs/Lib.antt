pub mod Opening
pub mod Private
