pub mod Commits
pub mod Layouts
pub mod OpenFile
pub mod Private
