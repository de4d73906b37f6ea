pub mod Calls
pub mod Codes
pub mod PageCalls
pub mod Private
