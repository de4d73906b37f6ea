pub mod Nibbles
pub mod Mixing
pub mod Places
pub mod Powers
pub mod RoundBytes
