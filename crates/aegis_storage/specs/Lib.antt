pub mod Disk
pub mod Journal
pub mod Private
pub mod Steps
