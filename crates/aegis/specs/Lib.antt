pub mod RecordResults
pub mod Private
pub mod RecordStream
