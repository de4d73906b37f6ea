pub mod Disks
pub mod Journals
pub mod Overwriting
pub mod StepFacts
pub mod StepLaws
pub mod Stepping
pub mod Taking
pub mod Driving
